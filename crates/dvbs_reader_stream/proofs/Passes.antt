-- Symbols and points fed through the bytes of a state are read as by the stream reader itself: the same bytes, and bytes that stand for the same reader.
-- Assumes nothing.
use mathlib.Core.Path.{◌≡◌, refl, sym, ap, subst, ◌∙◌}
use mathlib.Core.Bool.{true, false}
use mathlib.Core.List.{List, [], ◌++◌, map, append-nil, append_assoc}
use Prim.Native.Nat.{ℕ, ◌≤◌, ◌<◌}
use native.Mathlib.Omega.{arith}
use borrow.Author.Tests.{eq-eqb, ne_eqb}
use lib.Dec.{eqb}
use lib.ListN.{length, get_or, take, set, length-map, length-set}
use lib.Seq.{take-length, get_or-set_same, get_or-set_other}
use Rattle.std.specs.Prelude.{None}
use Rattle.common.specs.Choice.{pick}
use Rattle.common.specs.Lists.{All}
use Rattle.common.proofs.Lists.{get_d_map_in}
use Rattle.convolutional_code.specs.Bits.{Bits}
use Rattle.state_bytes.proofs.Calls.{own_call}
use Rattle.puncturing.specs.Mode.{qpsk_count}
use Rattle.branch_metrics.specs.Cost.{softly, received_of, ReceivedSymbol}
use Rattle.branch_metrics.specs.SoftPairs.{symbol_pair}
use Rattle.inner_code.specs.Encode.{coder_at}
use Rattle.inner_code.specs.Step.{symbols_of}
use Rattle.reader.specs.Clear.{AllClear}
use Rattle.reader.specs.Cost.{differing, Costed}
use Rattle.reader.specs.Decisions.{hard_pair}
use Rattle.reader.proofs.Decisions.{written_costed}
use Rattle.reader.proofs.SoftDecisions.{along_costed}
use Rattle.reader_stream.specs.Stream.{FinishesReader}
use Rattle.reader_stream.specs.History.{ReaderFeedings, feeding, PairsRead, SymbolsEnded}
use Rattle.reader_stream.specs.History as own
use Rattle.reader_stream.specs.declared.ReaderStream.{ReaderStream}
use Rattle.reader_stream.specs.declared.Finished.{Finished}
use Rattle.reader_stream.proofs.Histories.{every_history, every_end}
use Rattle.reader_stream.proofs.Unharmed.{WholeBytes, stream_whole}
use Rattle.dvbs_reader_stream.specs.State.{state_bytes, StandsFor, fresh_reader}
use Rattle.dvbs_reader_stream.specs.Calls.{FeedsPairs, refused, fed, EndsPairs, refused_end, ended, EndsState}
use Rattle.dvbs_reader_stream.specs.Pass.{ReaderPass, none, hard, soft}
use Rattle.dvbs_reader_stream.proofs.States.{reads, fresh_reader_lem, stands_fresh}
use Rattle.dvbs_reader_stream.proofs.Feeding.{end_pass}

-- ---- call after call

-- a history of the stream reader's own calls with these decisions and bytes, and a reader after them for which these bytes stand
pub record AsFed (rate : ℕ) (pairs written state : List ℕ) : Type 0 where
  pub last : ReaderStream
  pub feedings : ReaderFeedings rate pairs written last
  pub stands : StandsFor state last

-- one call more
fed_on : {rate due : ℕ} {before given : List ℕ} {s next : ReaderStream} (piece : List ℕ) {output exit : List ℕ} (number r : ℕ) → ReaderFeedings rate before given s
    → FeedsPairs due s piece output number r next exit → ReaderFeedings rate (before ++ pick (eqb number 0) piece []) (given ++ take r exit) next
fed_on {rate} {before = before} {given} {s} {next} piece {exit = exit} number r b (refused e p c n x) =
    let f : eqb number 0 ≡ false = ne_eqb number 0 (λ z. absurd (omega arith)) in
    let none_came : before ≡ before ++ pick (eqb number 0) piece [] = sym (append-nil before) ∙ ap (λ t. before ++ pick t piece []) (sym f) in
    let none_given : given ≡ given ++ take r exit = sym (append-nil given) ∙ ap (λ (k : ℕ). given ++ take k exit) (sym c) in
    subst (λ (t : ReaderStream). ReaderFeedings rate (before ++ pick (eqb number 0) piece []) (given ++ take r exit) t) (sym n)
    (subst (λ (l : List ℕ). ReaderFeedings rate l (given ++ take r exit) s) none_came (subst (λ (l : List ℕ). ReaderFeedings rate before l s) none_given b))
fed_on {rate} {before = before} {given} {next = next} piece {output} {exit} number r b (fed z n f) =
    let t : eqb number 0 ≡ true = eq-eqb number 0 n in
    subst (λ (l : List ℕ). ReaderFeedings rate (before ++ l) (given ++ take r exit) next) (ap (λ u. pick u piece []) (sym t)) (feeding piece output exit r b f)

joined_on : {rate : ℕ} {last : List ℕ} (a g p t ps ws : List ℕ) → AsFed rate (a ++ p ++ ps) (g ++ t ++ ws) last → AsFed rate (a ++ (p ++ ps)) (g ++ (t ++ ws)) last
joined_on {rate} {last} a g p t ps ws w =
    subst (λ (l : List ℕ). AsFed rate l (g ++ (t ++ ws)) last) (append_assoc a p ps) (subst (λ (l : List ℕ). AsFed rate (a ++ p ++ ps) l last) (append_assoc g t ws) w)

pub pass_fed : {rate : ℕ} {state last before given pairs written : List ℕ} (s : ReaderStream) → ReaderFeedings rate before given s → StandsFor state s → ReaderPass state pairs written last
    → AsFed rate (before ++ pairs) (given ++ written) last
pass_fed {rate} {before = before} {given} s b h none = record {
  last = s;
  feedings = subst (λ (l : List ℕ). ReaderFeedings rate l (given ++ []) s) (sym (append-nil before)) (subst (λ (l : List ℕ). ReaderFeedings rate before l s) (sym (append-nil given)) b);
  stands = h;
}
pass_fed {before = before} {given} s b h (hard {pairs = pairs} {written} symbols output answer r after exit told one d rest) =
    let o = own_call reads s h one d in
    let w = pass_fed o.next (fed_on (map hard_pair symbols) (get_or told 0 0) r b o.own) o.stands rest in
    joined_on before given (pick (eqb (get_or told 0 0) 0) (map hard_pair symbols) []) (take r exit) pairs written w
pass_fed {before = before} {given} s b h (soft {pairs = pairs} {written} is qs lost output answer r after exit told one d rest) =
    let o = own_call reads s h one d in
    let all = map symbol_pair (received_of is qs lost) in
    let w = pass_fed o.next (fed_on all (get_or told 0 0) r b o.own) o.stands rest in
    joined_on before given (pick (eqb (get_or told 0 0) 0) all []) (take r exit) pairs written w

-- begun with a fresh state: a history from a fresh stream reader on
pub pass_fresh : {rate : ℕ} {pairs written last : List ℕ} → rate < qpsk_count → ReaderPass (state_bytes (fresh_reader rate)) pairs written last → AsFed rate pairs written last
pass_fresh {rate} h p = pass_fed (fresh_reader rate) (own.none (fresh_reader_lem rate h)) (stands_fresh rate h) p

-- so the bytes are those of the bits that overlapping runs decide of all the decisions, whatever calls they came in, and the bytes of the state stand for a
-- reader that holds what is behind them
pub record ReadSoFar (rate : ℕ) (pairs written state : List ℕ) : Type 0 where
  pub last : ReaderStream
  pub read : PairsRead rate pairs written last
  pub stands : StandsFor state last

pub pass_read : {rate : ℕ} {pairs written last : List ℕ} → rate < qpsk_count → ReaderPass (state_bytes (fresh_reader rate)) pairs written last → ReadSoFar rate pairs written last
pass_read h p = let w = pass_fresh h p in record { last = w.last; read = every_history w.feedings; stands = w.stands }

-- ---- the end

-- an end that is answered 0 is the stream reader's own, and tells what is left
record OwnEnd (s : ReaderStream) (output : List ℕ) (r : ℕ) (exit behind : List ℕ) : Type 0 where
  finished : Finished
  finishes : FinishesReader s output finished exit
  count_is : r ≡ finished.count
  rest_is : get_or behind 0 0 ≡ finished.rest
  bits_are : get_or behind 1 0 ≡ finished.bits

own_end : (s : ReaderStream) (output left : List ℕ) (number r : ℕ) (exit behind : List ℕ) → EndsPairs s output left number r exit behind → number ≡ 0 → OwnEnd s output r exit behind
own_end s output left number r exit behind (refused_end e p c x b) z = absurd (omega arith)
own_end s output left number r exit behind (ended d n f g c b) z =
    let two = (end_pass (length output) (length left) d).1 in
    let first = set left 0 f.rest in
    let size : length first ≡ length left = length-set left 0 f.rest in
    record {
      finished = f;
      finishes = g;
      count_is = c;
      rest_is = ap (λ (l : List ℕ). get_or l 0 0) b ∙ get_or-set_other first 1 0 f.bits 0 (λ q. absurd (omega arith)) ∙ get_or-set_same left 0 f.rest 0 (omega arith);
      bits_are = ap (λ (l : List ℕ). get_or l 1 0) b ∙ get_or-set_same first 1 f.bits 0 (omega arith);
    }

module _ {rate : ℕ} {pairs written last : List ℕ} (known : rate < qpsk_count) (pass : ReaderPass (state_bytes (fresh_reader rate)) pairs written last)
    (output left answer : List ℕ) (r : ℕ) (exit behind told : List ℕ) (one : 1 ≤ length answer) (end : EndsState last output left answer r exit behind told) (done : get_or told 0 0 ≡ 0) where
  came : AsFed rate pairs written last
  came = pass_fresh known pass

  over : OwnEnd came.last output r exit behind
  over = own_end came.last output left (get_or told 0 0) r exit behind (own_call reads came.last came.stands one end).own.1 done

  -- With the end, the bytes are those of the bits of all the symbols, of whatever kind, that the decisions are of. It tells how many symbols are in no pattern,
  -- and how many bits in no byte.
  pub pass_ended : {R : Type 0} (cost : R → ℕ → ℕ) (rs : List R) → Costed cost rs pairs → SymbolsEnded cost rate rs (written ++ take r exit) (get_or behind 0 0) (get_or behind 1 0)
  pass_ended cost rs c =
      let o = over in
      let e = every_end cost came.feedings rs c o.finishes in
      subst (λ (k : ℕ). SymbolsEnded cost rate rs (written ++ take k exit) (get_or behind 0 0) (get_or behind 1 0)) (sym o.count_is)
      (subst (λ (k : ℕ). SymbolsEnded cost rate rs (written ++ take o.finished.count exit) k (get_or behind 1 0)) (sym o.rest_is)
      (subst (λ (k : ℕ). SymbolsEnded cost rate rs (written ++ take o.finished.count exit) o.finished.rest k) (sym o.bits_are) e))

  -- Symbols that leave no doubt of what was sent are read as the bytes of the bits that were sent, as far as their patterns are whole.
  pub pass_whole : {R : Type 0} (cost : R → ℕ → ℕ) (bits : List ℕ) → Bits bits → (rs : List R) (ss unread : List ℕ) → AllClear cost rs ss → ss ++ unread ≡ symbols_of (coder_at rate 0) bits
      → Costed cost rs pairs → WholeBytes rate bits (length rs) (written ++ take r exit) (get_or behind 0 0) (get_or behind 1 0)
  pass_whole cost bits w rs ss unread g e c =
      let o = over in
      let k = stream_whole cost rate bits w rs ss unread g e came.feedings c o.finishes in
      record {
        given = ap (λ (n : ℕ). written ++ take n exit) o.count_is ∙ k.given;
        within = k.within;
        behind = o.rest_is ∙ k.behind;
        bits_left = o.bits_are ∙ k.bits_left;
      }

-- ---- which symbols the decisions are of

-- hard ones
pub hard_costed : (symbols : List ℕ) → All (λ s. s < 4) symbols → Costed differing symbols (map hard_pair symbols)
hard_costed symbols valid =
    let l = map hard_pair symbols in
    let n : length l ≡ length symbols = length-map symbols hard_pair in
    let all : take (length symbols) l ≡ l = ap (λ (k : ℕ). take k l) (sym n) ∙ take-length l in
    subst (Costed differing symbols) all (written_costed symbols l valid (λ t h. get_d_map_in hard_pair symbols 0 0 t h) (omega arith) (length symbols) refl)

-- soft ones
pub soft_costed : (rs : List ReceivedSymbol) → Costed softly rs (map symbol_pair rs)
soft_costed rs =
    let l = map symbol_pair rs in
    let n : length l ≡ length rs = length-map rs symbol_pair in
    let all : take (length rs) l ≡ l = ap (λ (k : ℕ). take k l) (sym n) ∙ take-length l in
    subst (Costed softly rs) all (along_costed (λ i. get_or rs i None) rs (length rs) refl (λ i h. refl) l (omega arith) (λ t h. get_d_map_in symbol_pair rs None 0 t h))
