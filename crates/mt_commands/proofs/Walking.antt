-- A step of a cursor is one of a lane's walk.
use Rattle.mt_commands.proofs.Prelude.{◌≡◌, ℕ, ◌+◌, ◌≤◌, List, Option, Some, None, refl, sym, ap, ◌∙◌, arith, Range, Query, Load, Find, Next, Prev, Rfind, History, Read, find_at, HasStepped, most_made, epochs_opened, place_behind, Walk, HasWalkedOn, opened_at}
use Rattle.mt_base.specs.Passes.{Pass}

-- any query is answered in so many steps at the most
pub few_steps : (query : Query) → most_made query ≤ 360
few_steps (Load index) = omega arith
few_steps (Find index max) = omega arith
few_steps (Next index max) = omega arith
few_steps (Prev index min) = omega arith
few_steps (Rfind index min) = omega arith

same_opened : (epoch : Option ℕ) (opened : List ℕ) (lo : ℕ) → epochs_opened epoch opened lo ≡ opened_at lo epoch opened
same_opened None opened lo = refl
same_opened (Some epoch) opened lo = refl

module _ (history history' : History) (reference reference' : ℕ) (p q : Pass) (epoch at at' : Option ℕ) (max max' lo hi steps steps' : ℕ) (value : Option Range) where
  abbrev before : Walk
  before = record { history = history; reference = reference; pass = p; steps = steps; at = at; max = max }

  abbrev after : Walk
  after = record { history = history'; reference = reference'; pass = q; steps = steps'; at = at'; max = max' }

  -- the section that stands open for the pass is the cursor's own
  pub walked : history' ≡ history → reference' ≡ reference → ((k : ℕ) × Read history p lo hi k (find_at at max) value q) → HasStepped lo hi epoch p q → at' ≡ place_behind value max → max' ≡ max → epoch ≡ p.standing → steps' ≤ steps + 220 → HasWalkedOn lo hi value before after
  walked same_history same_reference read stepped at_is max_is own few =
      record {
        is = λ i. record { history = same_history i; reference = same_reference i; pass = q; steps = steps'; at = at_is i; max = max_is i };
        k = read.0;
        read = read.1;
        few = few;
        opened = ap (λ (z : Pass). z.opened) stepped.pass ∙ (same_opened epoch p.opened lo ∙ ap (λ (z : Option ℕ). opened_at lo z p.opened) own);
        stands = λ none. absurd (let some = sym (ap (λ (z : Pass). z.standing) stepped.pass) ∙ none in cc);
      }
