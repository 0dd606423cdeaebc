use Rattle.mt_bulk.proofs.Prelude.{◌≡◌, ◌-◌, ◌*◌, ℕ, refl, sym, ap, ◌∙◌, subst, arith, vec_len, vec_capacity, columns, kind_width, ChunkView, IsFillable}
use Rattle.mt_bulk.proofs.Laying.{columns_grow, part_ready}
use Rattle.mt_bulk.proofs.building.lay_lane.Goals as goal

pub returns-clause-laid : goal.returns-clause-laid
returns-clause-laid c =
    let l = c.args.leaves.now in
    let from = c.args.from in
    let to = c.args.to in
    let words = c.in_ok-words.words in
    let heads = c.in_ok-heads.heads in
    let rows = c.room_for-rows.result in
    let cols : c.cols.result ≡ columns (kind_width l.kind) = c.cols.ensures ∙ ap columns c.width_of.ensures in
    let all : c.cols.result * rows ≡ columns (kind_width l.kind) * rows = ap (λ (n : ℕ). n * rows) cols in
    let grown = columns_grow (kind_width l.kind) (to - from) rows c.room_for-rows.ensures.least in
    let room = c.in_ok-words.ensures.exact in
    let empty = c.in_ok-words.ensures.len in
    let items = c.room_for-items.ensures.least in
    let heads_room = c.in_ok-heads.ensures.exact in
    let heads_empty = c.in_ok-heads.ensures.len in
    record {
      chunk = c.part.ensures;
      steps = refl;
      words = c.in_ok-words.ensures.items;
      heads = c.in_ok-heads.ensures.items;
      ready = subst (λ (v : ChunkView). IsFillable v (vec_len words) (vec_capacity words) (vec_len heads) (vec_capacity heads)) (sym c.part.ensures)
          (part_ready l from to (vec_len words) (vec_capacity words) (vec_len heads) (vec_capacity heads) c.requires.leaves c.requires.order c.requires.inside (omega (arith, all, grown, room, empty)) (omega (arith, items, heads_room, heads_empty)));
    }

pub returns-clause-room : goal.returns-clause-room
returns-clause-room c =
    let l = c.args.leaves.now in
    let rows = c.room_for-rows.result in
    let cols : c.cols.result ≡ columns (kind_width l.kind) = c.cols.ensures ∙ ap columns c.width_of.ensures in
    let all : c.cols.result * rows ≡ columns (kind_width l.kind) * rows = ap (λ (n : ℕ). n * rows) cols in
    let room = c.in_ok-words.ensures.exact in
    let heads_room = c.in_ok-heads.ensures.exact in
    λ first.
    let most_rows = c.room_for-rows.ensures.first first in
    let grown = columns_grow (kind_width l.kind) l.rows rows most_rows in
    let most_items = c.room_for-items.ensures.first first in
    (omega (arith, all, grown, room), omega (arith, most_items, heads_room))
