-- How a call at work is answered: what lay behind the lock before it, and what it left there.
use Rattle.mt_tree.proofs.Prelude.{◌≡◌, ℕ, ◌+◌, ◌*◌, ◌-◌, ◌/◌, ◌≤◌, ◌∷◌, ◌++◌, List, [], Bool, true, false, Option, take, length, sym, ap, ◌∙◌, subst, ⊎_elim, arith, take-append_seam, length-map, Call, Kind, Reply, acted, Record, IsShort, Wants, still_short, Parts, IsApplied, IsCarriedOut, IsShortFor, is_refusal, TellsBook, Book, after_reclaim, map_by, IsRealShortage, Rooted, Sheet, height_in, Pass, Shape, record_of, records_of, Identity, pass_in, Tools, Tree, Behind, behind_lock, opened, Acts, IsDecidedOrMade, LacksRows, LeavesRoom, WasAnsweredBy, AreBack, AtWork}
use Rattle.mt_base.specs.Passes as known
use Rattle.mt_tree.proofs.AtWork.{at_rest, count_is, rows_still, same_shape, shape_is, tree_is}
use Rattle.mt_tree.proofs.Calling.{counted_at, known_then, seen_then, tree_back}

module _ (t : Tree) (i : Identity) (b : Behind) (p : known.Pass) (e e' : Parts) (tools : Option Tools) (pass : Pass) (w : AtWork t i b p e) (back : AreBack t e' tools pass)
    (call : Call) (reply : Reply) where
  tree_here : e.sheet.tree ≡ b.parts.sheet.tree
  tree_here = tree_is t i b p e w

  acts : acted e.kind (map_by e.sheet.tree) call ≡ (map_by e'.sheet.tree, reply) → Acts b (behind_lock tools) call reply
  acts is =
      let after : e'.sheet.tree ≡ (behind_lock tools).parts.sheet.tree = sym (ap (λ (x : Parts). x.sheet.tree) back.parts) in
      subst (λ (x : Kind × (Rooted × Rooted)). acted x.0 (map_by x.1.0) call ≡ (map_by x.1.1, reply)) (λ k. (w.kind k, (tree_here k, after k))) is

  wants_behind : Wants e.kind (map_by e.sheet.tree) call → Wants b.parts.kind (map_by b.parts.sheet.tree) call
  wants_behind = subst (λ (x : Kind × Rooted). Wants x.0 (map_by x.1) call) (λ k. (w.kind k, tree_here k))

  wants_here : Wants b.parts.kind (map_by b.parts.sheet.tree) call → Wants e.kind (map_by e.sheet.tree) call
  wants_here = subst (λ (x : Kind × Rooted). Wants x.0 (map_by x.1) call) (λ k. (sym w.kind k, sym tree_here k))

  room_behind : 3 * height_in e.sheet.tree.table e.sheet.tree.root + 1 ≤ length (after_reclaim e.book e'.sheet.scan.least).free → LeavesRoom e'.sheet.scan b
  room_behind = subst (λ (x : Rooted × Book). 3 * height_in x.0.table x.0.root + 1 ≤ length (after_reclaim x.1 e'.sheet.scan.least).free) (λ k. (tree_here k, w.book k))

  -- ---- a call that did what it says

  did_answer : IsCarriedOut e.kind e.sheet e'.sheet e.book e'.book call reply → IsDecidedOrMade t b (behind_lock tools) call reply
  did_answer did = record {
    wants = λ wants.
        let had = did.room (wants_here wants) in
        record { scan = e'.sheet.scan; scanned = back.scanned had.scanned; room = λ room. acts did.acts; lacks = λ none. absurd (none (room_behind had.room)) };
    calm = λ calm. (acts did.acts, back.unscanned (did.calm (λ wants. calm (wants_behind wants))).0);
  }

  -- ---- one that was refused

  module _ (short : IsShortFor e.kind e.sheet e'.sheet e.book e'.book call reply) (same : e'.sheet.tree ≡ e.sheet.tree) where
    tells : TellsBook (after_reclaim b.parts.book e'.sheet.scan.least) short.refused.shortage
    tells = subst (λ (x : Book). TellsBook x short.refused.shortage) (short.freed ∙ ap (λ (x : Book). after_reclaim x e'.sheet.scan.least) w.book) short.tells

    no_room : ¬ LeavesRoom e'.sheet.scan b
    no_room room =
        let high : height_in e'.sheet.tree.table e'.sheet.tree.root ≡ height_in b.parts.sheet.tree.table b.parts.sheet.tree.root = ap (λ (x : Rooted). height_in x.table x.root) (same ∙ tree_here) in
        omega (arith, room, high, short.counted.need, short.refused.short.few, tells.free)

    -- within the limits of the tree
    is_short : IsShort (record { rows = (opened t).rows; opened = length (opened t).opening / 2 + 2; ended = length b.pen.history; may_hold = true }) (map_by b.parts.sheet.tree) short.refused.shortage
    is_short =
        let first : e.sheet.opened ≡ b.parts.sheet.opened = ap (λ (s : Sheet). s.opened) w.sheet ∙ sym (ap (λ (x : Parts). x.sheet.opened) w.parts) in
        let few : b.parts.sheet.opened ≤ length (opened t).opening / 2 + 2 = subst (λ (x : Shape). b.parts.sheet.opened ≤ length x.opening / 2 + 2) (shape_is t i b p e w) w.kept.of.opened in
        let held : e.sheet.shared ≡ true = ap (λ (s : Sheet). s.shared) w.sheet in
        still_short (opened t).rows e.sheet.opened (length (opened t).opening / 2 + 2) e.sheet.ended (length b.pen.history) true (map_by b.parts.sheet.tree) short.refused.shortage (omega (arith, first, few)) (omega (arith, count_is t i b p e w))
        (subst (λ (x : (ℕ × Rooted) × Bool). IsShort (record { rows = x.0.0; opened = e.sheet.opened; ended = e.sheet.ended; may_hold = x.1 }) (map_by x.0.1) short.refused.shortage) (λ k. ((rows_still t i b p e w k, tree_here k), held k)) short.refused.short)

    lacks_rows : LacksRows t b (behind_lock tools) e'.sheet.scan call reply
    lacks_rows = record {
      refused = record { shortage = short.refused.shortage; told = short.refused.told; wants = wants_behind short.refused.wants; short = is_short };
      counted = subst (λ (x : Parts). IsRealShortage (record x.sheet { scan = e'.sheet.scan }) short.refused.shortage) (sym back.parts) (counted_at e'.sheet short.refused.shortage short.counted);
      tells = tells;
      kept = tree_back t i b p e e' tools pass w back same;
    }

    short_answer : IsDecidedOrMade t b (behind_lock tools) call reply
    short_answer = record {
      wants = λ wants. record { scan = e'.sheet.scan; scanned = back.scanned short.scanned; room = λ room. absurd (no_room room); lacks = λ none. lacks_rows };
      calm = λ calm. absurd (calm (wants_behind short.refused.wants));
    }

  -- ---- any call

  module _ (applied : IsApplied e.kind e.sheet e'.sheet e.book e'.book call reply) where
    answer_of : IsDecidedOrMade t b (behind_lock tools) call reply
    answer_of = ⊎_elim did_answer (λ lacked. short_answer lacked.0 lacked.1) applied.answer

    pub acts_behind : is_refusal reply ≡ false → Acts b (behind_lock tools) call reply
    acts_behind done = ⊎_elim (λ carried. acts carried.acts) (λ lacked. absurd (let refused : is_refusal reply ≡ true = ap is_refusal lacked.0.refused.told in let clash : true ≡ false = sym refused ∙ done in cc)) applied.answer

    pub was_answered : WasAnsweredBy t (pass_in pass) b (behind_lock tools) call (record { call = length b.pen.history + 1; reply = reply })
    was_answered =
        let seen : List Record = records_of b.pen.history in
        let last : List Record = record { pass = p.number; call = call; reply = reply } ∷ [] in
        let all : seen ++ last ≡ (pass_in pass).seen = sym (seen_then t i b p e e' tools pass w back call reply applied.ended ∙ (known_then t i b p e e' tools pass w back call reply applied.ended).1) in
        let count : length seen ≡ (length b.pen.history + 1) - 1 = (let long = length-map b.pen.history record_of in omega (arith, long)) in
        let rest = at_rest tools back.rest in
        record {
          before = record {
            table = w.table;
            shape = shape_is t i b p e w;
            records = sym (take-append_seam seen last) ∙ (λ k. take (count k) (all k));
            height = w.height;
            kept = w.kept;
          };
          after = record {
            table = back.of;
            shape = same_shape tools ∙ ap (λ (x : Identity). x.shape) back.of;
            records = sym (seen_then t i b p e e' tools pass w back call reply applied.ended);
            height = rest.0;
            kept = rest.1;
          };
          answer = answer_of;
        }
