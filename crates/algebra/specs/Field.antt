-- Sums and products on a type, and what makes them a field of characteristic two.
-- Assumes nothing.
use Rattle.std.specs.Prelude.{◌≡◌}

-- the operations alone, with no law
pub record Operations : Type 1 where
  pub F : Type 0
  pub add : F → F → F
  pub mul : F → F → F
  pub 𝟘 : F
  pub 𝟙 : F

-- a field in which each element is its own opposite, and whose equality is decided
pub record Field : Type 1 where
  pub F : Type 0
  pub dec : Discrete F
  pub add : F → F → F
  pub mul : F → F → F
  pub 𝟘 : F
  pub 𝟙 : F
  pub inv : F → F
  pub add·assoc : (a b c : F) → add (add a b) c ≡ add a (add b c)
  pub add·comm : (a b : F) → add a b ≡ add b a
  pub zero·add : (a : F) → add 𝟘 a ≡ a
  pub add·self : (a : F) → add a a ≡ 𝟘
  pub mul·assoc : (a b c : F) → mul (mul a b) c ≡ mul a (mul b c)
  pub mul·comm : (a b : F) → mul a b ≡ mul b a
  pub one·mul : (a : F) → mul 𝟙 a ≡ a
  pub mul·add : (a b c : F) → mul a (add b c) ≡ add (mul a b) (mul a c)
  pub mul·inv : (a : F) → (a ≡ 𝟘 → ⊥) → mul a (inv a) ≡ 𝟙
  pub one·ne·zero : 𝟙 ≡ 𝟘 → ⊥

-- the operations of a field
abbrev pub ops : Field → Operations
ops K = record { F = K.F; add = K.add; mul = K.mul; 𝟘 = K.𝟘; 𝟙 = K.𝟙 }
