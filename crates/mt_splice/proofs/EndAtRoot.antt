-- Where one row is the root, or nothing is left.
use Rattle.mt_splice.proofs.Prelude.{◌≡◌, suc, ◌++◌, Some, None, length, ap, ◌∙◌, subst, arith, Book, GapLaw, Levels, Sheet, Climb, Top, numbers_in_all, HasClimbed, EndsEmpty, EndsAtRoot, was_seen, AreAllHeld, IsPlanned, gone_by, taken_by, Before, passing, AreAllFromBelow, Start, ℕ, [], Bool, Span, refl, sym, now, times_in, with_root}
use Rattle.mt_splice.proofs.Burials.{AreBuried}
use Rattle.mt_splice.proofs.EndForms.{IsEnding}
use Rattle.mt_splice.proofs.EndGaps.{root_laws}
use Rattle.mt_splice.proofs.Ended.{taken, gone, held_then, old_beside, passing_all, root_level, root_replaces, gone_above}
use Rattle.mt_splice.proofs.LayerGaps.{planned_tell}
use Rattle.mt_splice.proofs.ToldRows.{gaps_were}

module _ {b : Before} {start : Start} {s s' : Sheet} {book book' : Book} {c : Climb} {top : Top} (hc : HasClimbed b start s book c top) (done : AreBuried s s' book book' (numbers_in_all s.tree start.height c.windows.items) b.number) where
  pub root_ends : (e : EndsAtRoot start hc.layers hc.root hc.over top) → IsEnding start (taken hc) (gone hc) (Some start.height) (Some (length e.lower)) (with_root (now start s') e.x.word)
  root_ends e =
      let planned = subst (IsPlanned start) e.are hc.planned in
      let low = planned.0.low in
      let laws = (planned_tell (old_beside hc done) (gaps_were hc.case.was hc.stands) e.l e.lower planned (subst (AreAllFromBelow start) e.are hc.told)
      (subst (AreAllHeld start s'.tree.table.words (was_seen (taken hc))) e.are (held_then hc done)) (omega arith)).laws in
      record {
        replaced = root_replaces hc done e;
        gaps = λ index _ _. root_laws (was_seen (taken hc)) index (now start s') (length e.lower) e.x e.first e.last (subst (Levels (GapLaw (now start s')) (now start s').table (length e.lower)) (root_level hc done e) laws);
      }

  -- nothing is left
  pub nothing_ends : EndsEmpty start hc.layers hc.root hc.over top → IsEnding start (taken hc) (gone hc) (Some start.height) None (with_root (now start s') 0)
  nothing_ends e =
      let taken_is : taken hc ≡ [] = λ i. e.no_root i ++ taken_by start (e.no_layers i) in
      let gone_is : gone hc ≡ gone_above start (suc start.height) = λ i. gone_by start (e.no_layers i) ++ gone_above start (e.all i) in
      let all : (p : ℕ → Span → Bool) → passing p (gone hc) ≡ times_in p start.tree start.height = λ p. ap (passing p) gone_is ∙ passing_all start p in
      record {
        replaced = record {
          stands = refl;
          ranges = sym e.none;
          rows = λ p. (let taken = ap (passing p) taken_is in let gone = all p in omega arith);
          were = λ p. (let gone = all p in omega arith);
          fewest = tt;
        };
        gaps = λ index _ _. tt;
      }
