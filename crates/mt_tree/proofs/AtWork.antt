-- A call at work: the rows that it begins with, and what they tell.
use Rattle.mt_tree.proofs.Prelude.{◌≡◌, ℕ, ◌≤◌, ◌<◌, ◌∷◌, ◌++◌, [], Option, Some, None, length, refl, sym, ap, ◌∙◌, subst, arith, length-map, length-append, Badge, Call, Reply, History, last_map, with_records, Parts, sheet_told, shown_all, told_of, map_by, with_record, Rooted, Sheet, Told, Pass, PenPart, Shape, TurnView, Width, record_of, records_of, Identity, pass_in, turn_seat, WasShown, Tools, Tree, Behind, behind_lock, parts_of, IsAtRest, IsPenAtRest, limit_of, opened, passes_of, place_of, IsPassOf, records_told, shown_pass, IsSeatOf, IsWorker, AtWork, most_calls}
use Rattle.mt_base.specs.Passes as known
use Rattle.mt_tree.proofs.Reading.{map_is}

-- the seat of the pass that works
pub seat_of : (t : Tree) (p : Pass) (turn : Badge TurnView) → turn ≡ turn_seat p → IsPassOf t p → IsSeatOf t turn
seat_of t p turn is of = subst (IsSeatOf t) (sym is) (record { table = of.seated.table; views = of.seated.views })

pub at_rest : (tools : Option Tools) → IsAtRest tools → (height : ℕ) × IsPenAtRest (behind_lock tools).pen (behind_lock tools).parts height
at_rest None rest = absurd rest
at_rest (Some t) rest = (t.height, rest.1)

pub same_parts : (tools : Option Tools) → (behind_lock tools).parts ≡ parts_of (behind_lock tools).pen (behind_lock tools).parts.book
same_parts None = refl
same_parts (Some t) = refl

pub same_shape : (tools : Option Tools) → (behind_lock tools).pen.shape ≡ (behind_lock tools).table.shape
same_shape None = refl
same_shape (Some t) = refl

pub at_work : (t : Tree) (tools : Option Tools) (pass : Pass) (i : Identity) (turn : Badge TurnView) (steps : ℕ) (wide : Width) (e : Parts) → IsWorker t tools pass i turn steps wide
    → e.kind ≡ (behind_lock tools).parts.kind → e.book ≡ (behind_lock tools).parts.book → e.sheet ≡ sheet_told i (behind_lock tools).pen (shown_pass (behind_lock tools).pen (pass_in pass))
    → WasShown (opened t) (behind_lock tools).pen (pass_in pass) (shown_pass (behind_lock tools).pen (pass_in pass)) → AtWork t i (behind_lock tools) (pass_in pass) e
at_work t tools pass i turn steps wide e worker kind book sheet shown =
    let rest = at_rest tools worker.rest in
    record {
      place = worker.table_is;
      shape = same_shape tools ∙ ap (λ (x : Identity). x.shape) (worker.of ∙ sym worker.table_is);
      table = worker.of;
      height = rest.0;
      kept = rest.1;
      parts = same_parts tools;
      kind = kind;
      book = book;
      sheet = sheet;
      shown = shown;
    }

module _ (t : Tree) (i : Identity) (b : Behind) (p : known.Pass) (e : Parts) (w : AtWork t i b p e) where
  abbrev pub told_at : Told
  told_at = told_of i b.pen (shown_pass b.pen p)

  pub told_is : e.sheet.told ≡ Some told_at
  told_is = ap (λ (s : Sheet). s.told) w.sheet

  pub count_is : e.sheet.ended ≡ length b.pen.history
  count_is = ap (λ (s : Sheet). s.ended) w.sheet ∙ (sym (ap (λ (x : Parts). x.sheet.ended) w.parts) ∙ w.kept.of.ended)

  pub tree_is : e.sheet.tree ≡ b.parts.sheet.tree
  tree_is = ap (λ (s : Sheet). s.tree) w.sheet ∙ sym (ap (λ (x : Parts). x.sheet.tree) w.parts)

  pub limit_is : b.pen.shape.calls ≡ limit_of t
  limit_is = ap (λ (x : Shape). x.calls) w.shape ∙ ap (λ (x : Identity). x.shape.calls) w.place

  -- the caller is told of as many passes as the tree has
  pub passes_is : told_at.caller.passes ≡ passes_of t
  passes_is = ap (λ (x : Identity). x.shape.passes) w.place

  pub shape_is : b.pen.shape ≡ (place_of t).shape
  shape_is = w.shape ∙ ap (λ (x : Identity). x.shape) w.place

  pub kind_still : e.kind ≡ (opened t).kind
  kind_still = w.kind ∙ (w.kept.of.kind ∙ ap (λ (x : Shape). x.kind) shape_is)

  pub rows_still : e.sheet.tree.rows ≡ (opened t).rows
  rows_still = ap (λ (x : Rooted). x.rows) tree_is ∙ (w.kept.of.rows ∙ ap (λ (x : Shape). x.rows) shape_is)

  -- the words stand for the map after all calls that the pass has then seen
  pub map_shown : map_by e.sheet.tree ≡ last_map (with_records (opened t) (records_of b.pen.history))
  map_shown = ap map_by tree_is ∙ (w.kept.of.map ∙ map_is b.pen.shape (place_of t).shape b.pen.history (records_of b.pen.history) shape_is refl)

  pub room_to_call : length b.pen.history < limit_of t → limit_of t ≤ most_calls → e.sheet.ended < most_calls
  room_to_call room few = omega (arith, count_is, room, few)

  pub still_few : (e' : Parts) → e'.sheet.told ≡ e.sheet.told → length (records_told e'.sheet.told) ≤ limit_of t
  still_few e' same =
      let few = w.kept.few in
      subst (λ (o : Option Told). length (records_told o) ≤ limit_of t) (sym (same ∙ told_is)) (omega (arith, few, limit_is, length-map b.pen.history record_of))

  -- where one call more was recorded
  abbrev pub told_after : Call → Reply → Told
  told_after call reply = record told_at { records = told_at.records ++ (record { pass = p.number; call = call; reply = reply } ∷ []) }

  pub told_more : (e' : Parts) (call : Call) (reply : Reply) → e'.sheet.told ≡ with_record e.sheet.told call reply → e'.sheet.told ≡ Some (told_after call reply)
  told_more e' call reply more = more ∙ ap (λ (o : Option Told). with_record o call reply) told_is

  pub one_more_fits : (e' : Parts) (call : Call) (reply : Reply) → e'.sheet.told ≡ with_record e.sheet.told call reply → length b.pen.history < limit_of t → length (records_told e'.sheet.told) ≤ limit_of t
  one_more_fits e' call reply more room =
      subst (λ (o : Option Told). length (records_told o) ≤ limit_of t) (sym (told_more e' call reply more))
      (omega (arith, room, length-map b.pen.history record_of, length-append (records_of b.pen.history) (record { pass = p.number; call = call; reply = reply } ∷ [])))

-- the calls that the pen's pass has seen to have ended are all that the pen knows
pub shown_counted : (tree : History) (pen : PenPart) (p : known.Pass) → WasShown tree pen p (shown_all pen p) → WasShown tree pen p (shown_pass pen p)
shown_counted tree pen p shown =
    let count : pen.ended ≡ length pen.history = ap (λ (x : known.Pass). x.ended) shown.saw.pass ∙ length-map pen.history record_of in
    subst (WasShown tree pen p) (λ k. record p { seen = records_of pen.history; ended = count k }) shown
