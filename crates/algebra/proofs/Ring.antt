-- What follows in every field of characteristic two, and `ring`, the laws by which `simp` decides identities of sums and products.
-- Assumes nothing.
use mathlib.Core.Path.{◌≡◌, sym, ap, ◌∙◌}
use Rattle.algebra.specs.Field.{Field}

module _ (K : Field) where
  open K use {F, add as ◌+◌, mul as ◌*◌, 𝟘, 𝟙, inv, add·assoc, add·comm, zero·add, add·self, mul·assoc, mul·comm, one·mul, mul·add, mul·inv, one·ne·zero}

  infixl 65 ◌+◌
  infixl 70 ◌*◌
  -- The laws again, as lemmas: a `ruleset` takes no name that `open` brings.
  pub add_assoc : (a b c : F) → (a + b) + c ≡ a + (b + c)
  add_assoc = add·assoc

  pub add_comm : (a b : F) → a + b ≡ b + a
  add_comm = add·comm

  pub zero_add : (a : F) → 𝟘 + a ≡ a
  zero_add = zero·add

  pub add_self : (a : F) → a + a ≡ 𝟘
  add_self = add·self

  pub mul_assoc : (a b c : F) → (a * b) * c ≡ a * (b * c)
  mul_assoc = mul·assoc

  pub mul_comm : (a b : F) → a * b ≡ b * a
  mul_comm = mul·comm

  pub one_mul : (a : F) → 𝟙 * a ≡ a
  one_mul = one·mul

  pub mul_add : (a b c : F) → a * (b + c) ≡ a * b + a * c
  mul_add = mul·add

  pub mul_inv : (a : F) → (a ≡ 𝟘 → ⊥) → a * inv a ≡ 𝟙
  mul_inv = mul·inv

  pub add_zero : (a : F) → a + 𝟘 ≡ a
  add_zero a = add_comm a 𝟘 ∙ zero_add a

  pub add_left_comm : (a b c : F) → a + (b + c) ≡ b + (a + c)
  add_left_comm a b c = sym (add_assoc a b c) ∙ ap (λ x. x + c) (add_comm a b) ∙ add_assoc b a c

  pub add_self_left : (a b : F) → a + (a + b) ≡ b
  add_self_left a b = sym (add_assoc a a b) ∙ ap (λ x. x + b) (add_self a) ∙ zero_add b

  pub mul_left_comm : (a b c : F) → a * (b * c) ≡ b * (a * c)
  mul_left_comm a b c = sym (mul_assoc a b c) ∙ ap (λ x. x * c) (mul_comm a b) ∙ mul_assoc b a c

  pub add_mul : (a b c : F) → (a + b) * c ≡ a * c + b * c
  add_mul a b c = mul_comm (a + b) c ∙ mul_add c a b ∙ ap (λ x. x + c * b) (mul_comm c a) ∙ ap (λ x. a * c + x) (mul_comm c b)

  pub mul_one : (a : F) → a * 𝟙 ≡ a
  mul_one a = mul_comm a 𝟙 ∙ one_mul a

  pub mul_zero : (a : F) → a * 𝟘 ≡ 𝟘
  mul_zero a = ap (λ x. a * x) (sym (add_self 𝟘)) ∙ mul_add a 𝟘 𝟘 ∙ add_self (a * 𝟘)

  pub zero_mul : (a : F) → 𝟘 * a ≡ 𝟘
  zero_mul a = mul_comm 𝟘 a ∙ mul_zero a

  -- equal exactly when the sum is zero
  pub eq_of_add : (a b : F) → a + b ≡ 𝟘 → a ≡ b
  eq_of_add a b h = sym (add_zero a) ∙ ap (λ x. a + x) (sym (add_self b)) ∙ sym (add_assoc a b b) ∙ ap (λ x. x + b) h ∙ zero_add b

  pub add_eq_zero : (a b : F) → a ≡ b → a + b ≡ 𝟘
  add_eq_zero a b e = ap (λ x. x + b) e ∙ add_self b

  -- no zero divisors
  pub cancel : (a b : F) → (a ≡ 𝟘 → ⊥) → a * b ≡ 𝟘 → b ≡ 𝟘
  cancel a b n h = sym (one_mul b) ∙ ap (λ x. x * b) (sym (mul_inv a n) ∙ mul_comm a (inv a)) ∙ mul_assoc (inv a) a b ∙ ap (λ x. inv a * x) h ∙ mul_zero (inv a)

  pub mul_ne : (a b : F) → (a ≡ 𝟘 → ⊥) → (b ≡ 𝟘 → ⊥) → a * b ≡ 𝟘 → ⊥
  mul_ne a b na nb h = nb (cancel a b na h)

  -- division: a product is divided by its second factor
  pub mul_div : (a b : F) → (b ≡ 𝟘 → ⊥) → (a * b) * inv b ≡ a
  mul_div a b n = mul_assoc a b (inv b) ∙ ap (λ x. a * x) (mul_inv b n) ∙ mul_one a

  pub ruleset ring = (add_assoc, add_comm, add_left_comm, zero_add, add_zero, add_self, add_self_left, mul_assoc, mul_comm, mul_left_comm, mul_add, add_mul, one_mul, mul_one, mul_zero, zero_mul)
