-- The first leaf of an empty tree, drafted, may be published as its root.
use Rattle.mt_splice.proofs.Prelude.{◌≡◌, ℕ, ◌+◌, ◌-◌, ◌<◌, ◌≤◌, List, ◌∷◌, Some, None, true, length, take, refl, sym, ap, ◌∙◌, subst, arith, flat_map, ◌≢◌, All, Any, take-length, Call, Kind, Reply, Book, Item, RowKind, Leaf, Span, RiseFrom, end_of, name_at, row_in, slots_of, leaf_range, spans_from, row_in-name_at, sizes, after, fills_after, fills_end, fills_rise, length-spans_from, PathStep, Root, Tree, IsRow, top_of, expand, map_of, tally, IsFree, IsWhole, Sheet, life_of, NewRow, FewestBelow, MaySplice, AreRowsTaken, IsPieceDrafted, IsRowTaken, IsReadyToPublish, IsFirstStore, AreHeld, part_of, IsLedger, was_seen, Before, IsReplaced, with_root, MayBeCut, Seen, Start, tree_with, [], Head, tree_as, with_published}
use Rattle.mt_splice.proofs.DraftedLedger.{held_then, ledger_then, width_then}
use Rattle.mt_splice.proofs.EndForms.{IsEnding, root_stored}
use Rattle.mt_splice.proofs.EndGaps.{root_laws}
use Rattle.mt_splice.proofs.FewestRows.{one_new}
use Rattle.mt_splice.proofs.LevelRows.{some_entry}
use Rattle.mt_splice.proofs.LevelRuns.{AreParts}
use Rattle.mt_splice.proofs.Parts.{held}
use Rattle.mt_splice.proofs.RootEndings.{at_root, root_is, root_rows}
use Rattle.mt_splice.proofs.Rooms.{still_free}
use Rattle.mt_splice.proofs.SpliceBegins.{b₀, case₀, cut, empty_cut, hi, no_tree, nothing_done, stand, start₀, the_answer, tree₀}

sub_none : (n : ℕ) → n - 0 ≡ n
sub_none n = omega arith

module _ {kind : Kind} {s : Sheet} {book : Book} {right : List PathStep} {items : List Item} {number : ℕ} {call : Call} {reply : Reply} (may : MaySplice kind s book [] right items number call reply) (whole : IsWhole s) where
  abbrev top : ℕ
  top = top_of (tree₀ may whole)

  few : (1 ≤ length items) × (length items ≤ slots_of s.tree.table.width Leaf)
  few =
      let same = length-spans_from 0 items in let some = (cut may whole).some in let all = ap length may.edits in let most = (empty_cut may whole).2 in let wide = sizes s.tree.table.width Leaf in
      (omega arith, omega (arith, wide.least, wide.some))

  items_rise : RiseFrom 0 items
  items_rise = fills_rise 0 (hi may whole) items (cut may whole).fills

  items_enter : Any (λ (x : Item). x.word ≢ 0) items
  items_enter = some_entry 0 items ((cut may whole).leaves refl).some

  rows_spare : All (λ row. IsFree s.cleared (life_of s.lives row)) book.free
  rows_spare = still_free (case₀ may whole 0 0).was (nothing_done whole may.kept)

  module _ (from to : ℕ) {s' : Sheet} {book' : Book} {above : RowKind} {made' : List NewRow} {new : Head} (piece : IsPieceDrafted s s' book book' above Leaf 0 items [] made' new) where
    abbrev start : Start
    start = start₀ may whole from to

    abbrev part : List Item
    part = part_of items 0 (length items)

    abbrev x : Span
    x = record { first = 0; last = end_of 0 part; word = name_at new.row Leaf }

    abbrev seen : Seen
    seen = record { height = 0; at = x }

    part_is : part ≡ items
    part_is = ap (λ (n : ℕ). take n items) (sub_none (length items)) ∙ take-length items

    run : MayBeCut start.tree 0 0 (after 0 part) (spans_from 0 part)
    run = subst (λ (p : ℕ × List Item). MayBeCut start.tree 0 0 p.0 (spans_from 0 p.1)) (λ i. ((fills_after 0 (hi may whole) items (cut may whole).fills ∙ ap (after 0) (sym part_is)) i, sym part_is i)) (cut may whole)

    fits : length items ≤ 0 + slots_of s.tree.table.width Leaf
    fits = let fit = few.1 in omega arith

    parts : AreParts start.tree 0 0 items 0 (length items ∷ [])
    parts = (record { some = few.0; within = omega arith; fit = fits; run = run }, refl)

    are : AreRowsTaken Leaf items 0 (length items ∷ []) (new.row ∷ []) s s' book book'
    are = (s', book', subst (λ (l : List Item). IsRowTaken s s' book book' Leaf l new.row) (sym part_is) piece.taken, (refl, refl))

    ledger : IsLedger (b₀ may whole) s' book' (seen ∷ []) []
    ledger = ledger_then (case₀ may whole from to).was 0 above Leaf items 0 0 (length items ∷ []) (new.row ∷ []) (nothing_done whole may.kept) are

    wide : s'.tree.table.width ≡ start.tree.table.width
    wide = width_then (case₀ may whole from to).was 0 above Leaf items 0 (length items ∷ []) (new.row ∷ []) s s' book book' are

    abbrev T : Tree
    T = tree_with start.tree s'.tree.table.words

    row_held : AreHeld T (was_seen (seen ∷ [])) Leaf items 0 (length items ∷ []) (new.row ∷ [])
    row_held = held_then (case₀ may whole from to).was 0 above Leaf items refl 0 0 (length items ∷ []) (new.row ∷ []) s s' book book' (nothing_done whole may.kept) are parts wide

    holds : (expand T.table (x ∷ []) ≡ spans_from 0 items) × IsRow T 0 x
    holds = let both = held T (was_seen (seen ∷ [])) 0 above Leaf refl items 0 0 (length items ∷ []) (new.row ∷ []) parts_now refl row_held in (both.0, both.1.0.0)
      where
        parts_now : AreParts T 0 0 items 0 (length items ∷ [])
        parts_now = (record { some = few.0; within = omega arith; fit = fits; run = record { fills = run.fills; some = run.some; few = run.few; least = run.least; fit = run.fit; leaves = λ leaf. let leaves = run.leaves leaf in record { ends = leaves.ends; some = leaves.some } } }, refl)

    last : x.last ≡ top
    last = ap (end_of 0) part_is ∙ (let some = few.0 in let ends = fills_end 0 0 (hi may whole) 0 items some (cut may whole).fills in omega arith)

    names : was_seen (seen ∷ []) (row_in x.word) ≡ true
    names = ap (was_seen (seen ∷ [])) (row_in-name_at new.row Leaf) ∙ row_held.1

    leaf_replaces : IsReplaced start.tree (with_root T x.word) start.map (seen ∷ []) [] None (Some 0)
    leaf_replaces = record {
      stands = record { low = omega arith; rows = root_rows T x refl last 0 (holds.1, tt) };
      ranges = ap (map_of T.table 0) (sym (at_root T x refl last)) ∙ (ap (flat_map leaf_range) holds.0 ∙ stand may whole);
      rows = λ p. let root = ap (λ (y : Span). tally (p 0) (y ∷ [])) (root_is start.tree x refl last) in omega arith;
      were = λ p. omega arith;
      fewest = subst (FewestBelow (was_seen (seen ∷ [])) start.tree.gapped T.table 0) (at_root T x refl last) (one_new (was_seen (seen ∷ [])) T.table Leaf x 0 items names holds.0 few.1);
    }

    ending : IsEnding start (seen ∷ []) [] None (Some 0) (tree_as (b₀ may whole).kind (with_published s'.tree Root x.word))
    ending = subst (IsEnding start (seen ∷ []) [] None (Some 0)) (root_stored (case₀ may whole from to).was ledger x.word)
        (record { replaced = leaf_replaces; gaps = λ index _ _. root_laws (was_seen (seen ∷ [])) index T 0 x refl last (tt, tt) })

    first_ends : {inner : List NewRow} (gap : ℕ) → inner ≡ made' → IsReadyToPublish (b₀ may whole) start s' book' inner (record { place = Root; word = new.item.word; gap = gap; row = new.row }) call reply
    first_ends {inner} gap same = subst (λ (n : ℕ). IsReadyToPublish (b₀ may whole) start s' book' inner (record { place = Root; word = n; gap = gap; row = new.row }) call reply) (sym (ap (λ (y : Item). y.word) piece.up)) (record {
      taken = seen ∷ [];
      gone = [];
      old = None;
      new = Some 0;
      case = case₀ may whole from to;
      ledger = ledger;
      few = omega arith;
      answer = the_answer may whole;
      stood = no_tree may whole;
      replaced = ending.replaced;
      gaps = ending.gaps;
      at = tt;
      names = names;
      row = sym (row_in-name_at new.row Leaf);
      inner_rows = same ∙ piece.noted;
    })

module _ {b : Before} {start : Start} {s : Sheet} {book : Book} {items : List Item} {call : Call} {reply : Reply} (first : IsFirstStore b start s book items call reply) (whole : IsWhole s) where
  pub leaf_may_be_root : {s' : Sheet} {book' : Book} {above : RowKind} {made made' inner : List NewRow} {new : Head} (gap : ℕ) → made ≡ [] → IsPieceDrafted s s' book book' above Leaf 0 items made made' new → inner ≡ made' → IsReadyToPublish b start s' book' inner (record { place = Root; word = new.item.word; gap = gap; row = new.row }) call reply
  leaf_may_be_root {s'} {book'} {above} {made} {made'} {inner} {new} gap none piece same =
      subst (λ (x : Before × Start). IsReadyToPublish x.0 x.1 s' book' inner (record { place = Root; word = new.item.word; gap = gap; row = new.row }) call reply) (λ i. (sym first.begun.before i, sym first.begun.start i))
      (first_ends first.may whole start.first start.last (subst (λ (l : List NewRow). IsPieceDrafted s s' book book' above Leaf 0 items l made' new) none piece) gap same)

  -- what a draft asks
  pub one_free : 0 < length book.free
  one_free = let room = first.may.room in omega arith

  pub rows_are : book.rows ≡ s.tree.rows
  rows_are = first.may.kept.booked.rows

  pub all_spare : All (λ row. IsFree s.cleared (life_of s.lives row)) book.free
  all_spare = rows_spare first.may whole

  pub some_items : 1 ≤ length items
  some_items = (few first.may whole).0

  pub leaf_fits : length items ≤ slots_of s.tree.table.width Leaf
  leaf_fits = (few first.may whole).1

  pub leaf_rises : RiseFrom 0 items
  leaf_rises = items_rise first.may whole

  pub leaf_enters : Any (λ (x : Item). x.word ≢ 0) items
  leaf_enters = items_enter first.may whole
