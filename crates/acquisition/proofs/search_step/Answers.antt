-- `acquisition::search_step` meets its contract.
-- Assumes nothing.
use mathlib.Core.Path.{◌≡◌, refl, sym, ap, ◌∙◌, subst, subst₂}
use mathlib.Core.List.{List, ◌++◌}
use Prim.Native.Nat.{ℕ, ◌+◌, ◌-◌, ◌<◌, ◌≤◌}
use native.Mathlib.Omega.{arith}
use lib.ListN.{length, take, length-append}
use Rattle.std.specs.Prelude.{Result, Ok, Err}
use Rattle.std.specs.Result.{result_unwrap_or}
use Rattle.answer.specs.Number.{answered, given_or}
use Rattle.answer.specs.declared.Refusal.{Refusal}
use Rattle.common.proofs.Lists.{All-append}
use Rattle.common.proofs.Padded.{padded_full}
use Rattle.reader_stream.proofs.Runs.{all_take}
use Rattle.node_search.specs.Hypotheses.{searched}
use Rattle.node_search.specs.Search.{Searches, SearchesWindow}
use Rattle.node_search.specs.declared.Search.{Search}
use Rattle.node_search.specs.declared.Search.TheVariants.{Nothing}
use Rattle.node_search.proofs.Found.{found_known, search_done}
use Rattle.acquisition.specs.Step.{pending_of, searching_on, window_of, waiting, AcquisitionReady, AfterSearch, gathers, fills}
use Rattle.acquisition.specs.declared.Acquisition.{Acquisition}
use Rattle.acquisition.specs.declared.Step.{Step}
use Rattle.acquisition.proofs.Symbols.{front_length}
use Rattle.acquisition.proofs.Ready.{searching_ready, after_search_ready, pending_length, gathered_front, window_length_lem}
use Rattle.acquisition.proofs.search_step.Goals as goal

-- what is taken for a search is what its promise speaks of
taken : (r : Result Search Refusal) → given_or Nothing (λ (s : Search). s) r ≡ result_unwrap_or r Nothing
taken (Ok s) = refl
taken (Err e) = refl

pub slice_bounds-joined-end : goal.slice_bounds-joined-end
slice_bounds-joined-end c = front_length c.args.state.held c.args.state.pending (omega (arith, c.requires.0.window_size, c.requires.0.window_few))

pub joined-gathered-requires : goal.joined-gathered-requires
joined-gathered-requires c = omega (arith, front_length c.args.state.held c.args.state.pending (omega (arith, c.requires.0.window_size, c.requires.0.window_few)), c.if-piece-space.true)

pub slice_bounds-searching_on-end : goal.slice_bounds-searching_on-end
slice_bounds-searching_on-end c =
    let front : take (c.args.state.held + length c.args.piece.now) c.joined-gathered.result ≡ pending_of c.args.state ++ c.args.piece.now = gathered_front c.args.state c.args.piece.now c.joined-gathered.result c.requires.0.window_size (omega (arith, c.requires.0.window_few)) c.joined-gathered.ensures in
    sym (ap length (front) ∙ length-append (pending_of c.args.state) c.args.piece.now ∙ ap (λ (n : ℕ). n + length c.args.piece.now) (pending_length c.args.state c.requires.0.window_size (omega (arith, c.requires.0.window_few))))

pub searching_on-more-requires : goal.searching_on-more-requires
searching_on-more-requires c =
    let front : take (c.args.state.held + length c.args.piece.now) c.joined-gathered.result ≡ pending_of c.args.state ++ c.args.piece.now = gathered_front c.args.state c.args.piece.now c.joined-gathered.result c.requires.0.window_size (omega (arith, c.requires.0.window_few)) c.joined-gathered.ensures in
    omega (arith, ap length (front), length-append (pending_of c.args.state) c.args.piece.now, pending_length c.args.state c.requires.0.window_size (omega (arith, c.requires.0.window_few)), c.if-piece-space.true)

pub returns-then-piece-space : goal.returns-then-piece-space
returns-then-piece-space c =
    let front : take (c.args.state.held + length c.args.piece.now) c.joined-gathered.result ≡ pending_of c.args.state ++ c.args.piece.now = gathered_front c.args.state c.args.piece.now c.joined-gathered.result c.requires.0.window_size (omega (arith, c.requires.0.window_few)) c.joined-gathered.ensures in
    let e = c.searching_on-more.ensures ∙ ap (λ (l : List ℕ). searching_on c.args.state.rate c.args.state.mirrored l (c.args.state.came + length c.args.piece.now)) (front) in let n : length (pending_of c.args.state ++ c.args.piece.now) ≡ c.args.state.held + length c.args.piece.now = length-append (pending_of c.args.state) c.args.piece.now ∙ ap (λ (n : ℕ). n + length c.args.piece.now) (pending_length c.args.state c.requires.0.window_size (omega (arith, c.requires.0.window_few))) in let w = c.waits.ensures ∙ ap (λ (x : Acquisition). waiting x (length c.args.piece.now)) e in (gathers (omega (arith, c.if-piece-space.true, c.requires.0.window_few)) w, subst (λ (x : Step). AcquisitionReady x.acquisition) (sym w) (searching_ready c.args.state.rate c.args.state.mirrored (pending_of c.args.state ++ c.args.piece.now) (c.args.state.came + length c.args.piece.now) c.requires.0.searched_known (omega (arith, n, c.if-piece-space.true)) (All-append (λ p. p < 81) (pending_of c.args.state) c.args.piece.now c.requires.0.window_small c.requires.2) (omega (arith, n, c.requires.0.window_came)) c.requires.1), subst (λ (x : Step). x.taken ≤ length c.args.piece.now) (sym w) (omega arith))

pub slice_bounds-joined-end-2 : goal.slice_bounds-joined-end-2
slice_bounds-joined-end-2 c = front_length c.args.state.held c.args.state.pending (omega (arith, c.requires.0.window_size, c.requires.0.window_few))

pub slice_bounds-joined-end-3 : goal.slice_bounds-joined-end-3
slice_bounds-joined-end-3 c = front_length (1632 - c.args.state.held) c.args.piece.now c.if-piece-space.false

pub joined-window-requires : goal.joined-window-requires
joined-window-requires c = omega (arith, front_length c.args.state.held c.args.state.pending (omega (arith, c.requires.0.window_size, c.requires.0.window_few)), front_length (1632 - c.args.state.held) c.args.piece.now c.if-piece-space.false, c.requires.0.window_few)

pub searched-next-requires : goal.searched-next-requires
searched-next-requires c =
    let window : c.joined-window.result ≡ window_of c.args.state c.args.piece.now = c.joined-window.ensures ∙ padded_full 1632 (window_of c.args.state c.args.piece.now)
    (window_length_lem c.args.state c.args.piece.now c.requires.0.window_size (omega (arith, c.requires.0.window_few)) c.if-piece-space.false) in
    let searches : Searches (window_of c.args.state c.args.piece.now) (searched c.args.state.rate) c.unwrap_or-search.result = let l = window_of c.args.state c.args.piece.now in
    search_done c.args.state.rate l _ c.unwrap_or-search.result c.requires.0.searched_known
    (window_length_lem c.args.state c.args.piece.now c.requires.0.window_size (omega (arith, c.requires.0.window_few)) c.if-piece-space.false)
    (All-append (λ p. p < 81) (pending_of c.args.state) (take (1632 - c.args.state.held) c.args.piece.now) c.requires.0.window_small (all_take (1632 - c.args.state.held) c.args.piece.now c.requires.2))
    (subst₂ (λ (x : List ℕ) (s : Search). SearchesWindow c.args.state.rate x (answered c.search_window.result) s) (window) (taken c.search_window.result ∙ sym c.unwrap_or-search.ensures) c.search_window.ensures) in
    (ap length (window) ∙ window_length_lem c.args.state c.args.piece.now c.requires.0.window_size (omega (arith, c.requires.0.window_few)) c.if-piece-space.false, omega (arith, c.requires.0.window_came), omega (arith, c.requires.1, c.if-piece-space.false), found_known c.args.state.rate (window_of c.args.state c.args.piece.now) c.unwrap_or-search.result (searches))

pub returns : goal.returns
returns c =
    let window : c.joined-window.result ≡ window_of c.args.state c.args.piece.now = c.joined-window.ensures ∙ padded_full 1632 (window_of c.args.state c.args.piece.now)
    (window_length_lem c.args.state c.args.piece.now c.requires.0.window_size (omega (arith, c.requires.0.window_few)) c.if-piece-space.false) in
    let searches : Searches (window_of c.args.state c.args.piece.now) (searched c.args.state.rate) c.unwrap_or-search.result = let l = window_of c.args.state c.args.piece.now in
    search_done c.args.state.rate l _ c.unwrap_or-search.result c.requires.0.searched_known
    (window_length_lem c.args.state c.args.piece.now c.requires.0.window_size (omega (arith, c.requires.0.window_few)) c.if-piece-space.false)
    (All-append (λ p. p < 81) (pending_of c.args.state) (take (1632 - c.args.state.held) c.args.piece.now) c.requires.0.window_small (all_take (1632 - c.args.state.held) c.args.piece.now c.requires.2))
    (subst₂ (λ (x : List ℕ) (s : Search). SearchesWindow c.args.state.rate x (answered c.search_window.result) s) (window) (taken c.search_window.result ∙ sym c.unwrap_or-search.ensures) c.search_window.ensures) in
    let a : AfterSearch c.args.state.rate c.args.state.mirrored (c.args.state.came + (1632 - c.args.state.held)) (window_of c.args.state c.args.piece.now) c.unwrap_or-search.result c.searched-next.result = subst (λ (l : List ℕ). AfterSearch c.args.state.rate c.args.state.mirrored (c.args.state.came + (1632 - c.args.state.held)) l c.unwrap_or-search.result c.searched-next.result) (window) c.searched-next.ensures in let f = c.if-piece-space.false in (fills (omega (arith, f)) (record { search = c.unwrap_or-search.result; searches = searches; next = c.searched-next.result; after = a; result = c.waits-2.ensures }), subst (λ (x : Step). AcquisitionReady x.acquisition) (sym c.waits-2.ensures) (after_search_ready c.args.state.rate c.args.state.mirrored (c.args.state.came + (1632 - c.args.state.held)) (window_of c.args.state c.args.piece.now) c.unwrap_or-search.result c.searched-next.result c.requires.0.searched_known (window_length_lem c.args.state c.args.piece.now c.requires.0.window_size (omega (arith, c.requires.0.window_few)) f) (All-append (λ p. p < 81) (pending_of c.args.state) (take (1632 - c.args.state.held) c.args.piece.now) c.requires.0.window_small (all_take (1632 - c.args.state.held) c.args.piece.now c.requires.2)) (omega (arith, c.requires.0.window_came)) (omega (arith, c.requires.1, f)) (found_known c.args.state.rate (window_of c.args.state c.args.piece.now) c.unwrap_or-search.result (searches)) a), subst (λ (x : Step). x.taken ≤ length c.args.piece.now) (sym c.waits-2.ensures) f)
