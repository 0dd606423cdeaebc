-- When the rows of a climb are drafted and those of its windows buried, one word may be published.
use Rattle.mt_splice.proofs.Prelude.{◌≡◌, ℕ, suc, ◌+◌, List, ◌∷◌, true, Option, Some, None, length, refl, sym, ap, ◌∙◌, subst, ⊎_elim, arith, AllByRecursion, Call, Reply, Book, Span, name_at, row_in, row_in-name_at, Place, Root, Slot, Tree, tree_as, with_published, Rooted, Sheet, inner_of, height_in, height_is, Climb, Top, TellsGapAt, TellsBelow, numbers_in_all, HasClimbed, EndsEmpty, EndsAtRoot, EndsAbove, EndsInSlot, IsEndPlace, IsTop, IsReadyToPublish, was_seen, Layer, AreAllHeld, IsPlanned, level_of, new_at, Before, IsAnswer, Start, [], now, with_root}
use Rattle.mt_splice.proofs.Burials.{AreBuried}
use Rattle.mt_splice.proofs.EndAbove.{above_ends, is_new}
use Rattle.mt_splice.proofs.EndAtRoot.{nothing_ends, root_ends}
use Rattle.mt_splice.proofs.EndAtSlot.{in_slot_tells, slot_ends, slot_is_place}
use Rattle.mt_splice.proofs.EndForms.{IsEnding, root_stored}
use Rattle.mt_splice.proofs.Ended.{taken, gone, held_then, old_beside, ledger_then, made_then}
use Rattle.mt_splice.proofs.Planned.{layer_new}

module _ {b : Before} {start : Start} {s s' : Sheet} {book book' : Book} {c : Climb} {top : Top} (hc : HasClimbed b start s book c top) (done : AreBuried s s' book book' (numbers_in_all s.tree start.height c.windows.items) b.number) where
  tall : height_in b.sheet.tree.table b.sheet.tree.root ≡ start.height + 1
  tall = ap (λ (t : Tree). height_in t.table t.root) (sym hc.case.was.tree) ∙ height_is start.tree start.height hc.stands

  -- a new row was taken
  one_taken : (l : Layer) (lower : List Layer) (x : Span) → hc.layers ≡ l ∷ lower → new_at start (length lower) l ≡ x ∷ [] → was_seen (taken hc) (row_in x.word) ≡ true
  one_taken l lower x are one =
      let planned = subst (IsPlanned start) are hc.planned in
      let held = subst (AreAllHeld start s'.tree.table.words (was_seen (taken hc))) are (held_then hc done) in
      (subst (AllByRecursion (λ (y : Span). was_seen (taken hc) (row_in y.word) ≡ true)) one (layer_new (old_beside hc done) (level_of start lower) (length lower) l planned.0 held.0).new_rows).0

  module _ {call : Call} {reply : Reply} (answer : IsAnswer b start call reply) where
    publish : (new : Option ℕ) → IsEnding start (taken hc) (gone hc) (Some start.height) new (tree_as b.kind (with_published s'.tree top.place top.word)) → IsEndPlace (now start s') (gone hc) (Some start.height) top.place → IsTop (taken hc) (Some start.height) new top.word → IsReadyToPublish b start s' book' c.made.items top call reply
    publish new ending at names = record {
      taken = taken hc;
      gone = gone hc;
      old = Some start.height;
      new = new;
      case = hc.case;
      ledger = ledger_then hc done;
      few = let high = tall in let few = hc.few in omega arith;
      answer = answer;
      stood = hc.stands;
      replaced = ending.replaced;
      gaps = ending.gaps;
      at = at;
      names = names;
      row = hc.names;
      inner_rows = made_then hc done;
    }

    at_root : (new : Option ℕ) (word : ℕ) → top.place ≡ Root → top.word ≡ word → IsEnding start (taken hc) (gone hc) (Some start.height) new (with_root (now start s') word) → IsTop (taken hc) (Some start.height) new word
        → IsReadyToPublish b start s' book' c.made.items top call reply
    at_root new word place_is word_is ending names = publish new
        (subst (IsEnding start (taken hc) (gone hc) (Some start.height) new) (root_stored hc.case.was (ledger_then hc done) word ∙ (λ m. tree_as b.kind (with_published s'.tree (sym place_is m) (sym word_is m)))) ending)
        (subst (IsEndPlace (now start s') (gone hc) (Some start.height)) (sym place_is) tt) (subst (IsTop (taken hc) (Some start.height) new) (sym word_is) names)

    pub may_publish_end : IsReadyToPublish b start s' book' c.made.items top call reply
    may_publish_end =
        ⊎_elim (λ (e : EndsEmpty start hc.layers hc.root hc.over top). at_root None 0 e.place e.word (nothing_ends hc done e) refl)
        (⊎_elim (λ (e : EndsAtRoot start hc.layers hc.root hc.over top). at_root (Some (length e.lower)) e.x.word e.place e.word (root_ends hc done e) (one_taken e.l e.lower e.x e.are e.one))
        (⊎_elim
        (λ (e : EndsAbove start s hc.layers hc.root hc.over top).
        at_root (Some (suc start.height)) (name_at e.row (inner_of start.tree.gapped)) e.place e.word (above_ends hc done e) (ap (was_seen (taken hc)) (row_in-name_at e.row (inner_of start.tree.gapped)) ∙ is_new hc done e))
        (λ (e : EndsInSlot start hc.layers hc.root hc.over top). publish (Some start.height) (slot_ends hc done e) (slot_is_place hc done e) (subst (λ (n : ℕ). was_seen (taken hc) (row_in n) ≡ true) (sym e.word) (one_taken e.l e.lower e.x e.are e.one))))) hc.ends

  -- what is told of the row there
  pub top_told : (t : Rooted) → ((row col gap : ℕ) → top.place ≡ Slot row col → TellsBelow b.kind (with_published s'.tree top.place top.word) top.word gap → TellsGapAt b.kind t top.place gap) → TellsGapAt b.kind t top.place top.gap
  top_told t in_slot =
      ⊎_elim (λ (e : EndsEmpty start hc.layers hc.root hc.over top). at_root e.place e.gap)
      (⊎_elim (λ (e : EndsAtRoot start hc.layers hc.root hc.over top). at_root e.place e.gap)
      (⊎_elim (λ (e : EndsAbove start s hc.layers hc.root hc.over top). at_root e.place e.gap) (λ (e : EndsInSlot start hc.layers hc.root hc.over top). in_slot _ _ top.gap e.place (in_slot_tells hc done e)))) hc.ends
    where
      at_root : top.place ≡ Root → top.gap ≡ 0 → TellsGapAt b.kind t top.place top.gap
      at_root place_is none = subst (λ (p : Place). TellsGapAt b.kind t p top.gap) (sym place_is) none
