-- Turns one after another, from a tree that was just made.
use Rattle.mt_commands.proofs.Prelude.{◌≡◌, ℕ, ◌+◌, ◌^◌, ◌<◌, ◌≤◌, List, [], ◌∷◌, All, length, map, refl, sym, ap, ◌∙◌, subst, arith, length-map, History, Record, last_map, new_pass, with_records, most_rows, Draws, new_draws, Tree, Pass, IsNew, IsPassOf, map_seen, opened, pass_in, HasOnePass, IsFew, IsOnlyPass, turns_at, Tally, Turns, no_tally, turn, turns, most_calls, most_steps}
use Rattle.mt_base.specs.declared.kinds.Kind.TheVariants as kinds
use Rattle.mt_base.specs.Passes as known
use Rattle.mt_commands.proofs.FewTurns.{few_after, turns_more, window_after}

module _ (t : Tree) (p : known.Pass) (d : Draws) (tally : Tally) (lo hi i drops : ℕ) (here : turns_at t p d tally ≡ turns lo hi i drops) where
  pub few_now : i ≤ most_steps → hi < 2 ^ 64 → IsFew (map_seen t p) most_steps
  few_now low high =
      let is = subst (λ (x : Turns). IsFew x.map i) (sym here) (few_after lo hi drops i high) in
      let few = is.few in
      record { map = is.map; few = omega arith }

  pub window_now : hi < 2 ^ 64 → d.hi < 2 ^ 64
  window_now high = (let same = ap (λ (x : Turns). x.draws.hi) here ∙ window_after lo hi drops i high in omega arith)

  pub one_turn_more : (next : Turns) → next ≡ turn drops (turns_at t p d tally) (i + 1) → next ≡ turns lo hi (i + 1) drops
  one_turn_more next is = is ∙ (ap (λ (x : Turns). turn drops x (i + 1)) here ∙ sym (turns_more lo hi drops i))

  pub tally_now : tally ≡ (turns lo hi i drops).tally
  tally_now = ap (λ (x : Turns). x.tally) here

pub at_start : (t : Tree) (p : known.Pass) (d : Draws) (tally : Tally) (drops : ℕ) → HasOnePass t → p.seen ≡ [] → d ≡ new_draws d.lo d.hi → tally ≡ no_tally → turns_at t p d tally ≡ turns d.lo d.hi 0 drops
at_start t p d tally drops only none new empty =
    let opening : (opened t).opening ≡ [] = ap (λ (h : History). h.opening) only.tree in
    let map_is : map_seen t p ≡ [] = ap (λ (rs : List Record). last_map (with_records (opened t) rs)) none ∙ opening in
    (λ k. record { map = map_is k; draws = new k; tally = empty k })

-- ---- a tree that was just made

-- the only pass of a new tree has made no call
pub record IsMade (t : Tree) (ps : List Pass) : Type 0 where
  pub only : HasOnePass t
  pub count : length ps ≡ 1
  pub of : (p : Pass) → ps ≡ p ∷ [] → IsPassOf t p
  pub pass : (p : Pass) → ps ≡ p ∷ [] → IsOnlyPass (pass_in p)
  pub empty : (p : Pass) → ps ≡ p ∷ [] → (pass_in p).seen ≡ []

abbrev first_of : known.Pass → List known.Pass → known.Pass
first_of p [] = p
first_of p (q ∷ qs) = q

pub made_new : (rows calls : ℕ) (t : Tree) (ps : List Pass) → rows ≡ most_rows → calls ≡ most_calls → IsNew (record { kind = kinds.Alloc; rows = rows; passes = 1; calls = calls }) [] t ps → IsMade t ps
made_new rows calls t ps all most new =
    let count : length ps ≡ 1 = sym (length-map ps pass_in) ∙ ap (λ (l : List known.Pass). length l) new.passes in
    let first : (p : Pass) → ps ≡ p ∷ [] → pass_in p ≡ new_pass 0 = λ p is. ap (first_of (new_pass 0)) (sym (ap (map pass_in) is) ∙ new.passes) in
    record {
      only = record {
        tree = new.tree ∙ (λ k. record { kind = kinds.Alloc; rows = all k; opening = []; records = [] });
        calls = new.calls ∙ most;
        passes = sym new.all.count ∙ count;
      };
      count = count;
      of = λ p is. (let each = subst (All (IsPassOf t)) is new.all.of in each 0 p (omega arith));
      pass = λ p is. subst IsOnlyPass (sym (first p is)) (record { number = refl; own = refl; shut = refl });
      empty = λ p is. ap (λ (q : known.Pass). q.seen) (first p is);
    }
