use Rattle.mt_bulk.proofs.Prelude.{◌≡◌, ◌+◌, ◌-◌, ◌*◌, ◌++◌, ℕ, take, drop, sym, ap, ◌∙◌, subst, arith, slice_index, finds_room, columns, kind_width, RiseFrom, heads_in, view_of, chunk_words}
use Rattle.mt_bulk.proofs.Placed.{next_row}
use Rattle.mt_bulk.proofs.Filling.{next_fill, row_rises, step_heads, step_words}
use Rattle.mt_bulk.proofs.chunks.fill_rows.Goals as goal

pub push_head-requires-clause-rise : goal.push_head-requires-clause-rise
push_head-requires-clause-rise c =
    let k = view_of c.args.chunk.now in
    let fill = next_fill k.tree k.kind k.items c.loop-at.from c.loop-at.at k.ends c.loop-at-test.true c.loop-at.invariant.fill in
    let row = take (slice_index k.ends c.loop-at.at - c.loop-at.from) (drop c.loop-at.from k.items) in
    subst (λ (n : ℕ). RiseFrom n row) (sym c.first_index-first.ensures) (row_rises k.items c.loop-at.from (slice_index k.ends c.loop-at.at) fill.0 fill.1 c.requires.rows.rise)

pub push_head-requires-clause-entry : goal.push_head-requires-clause-entry
push_head-requires-clause-entry c =
    let k = view_of c.args.chunk.now in
    let fill = next_fill k.tree k.kind k.items c.loop-at.from c.loop-at.at k.ends c.loop-at-test.true c.loop-at.invariant.fill in
    fill.3

pub loop-at-preserved : goal.loop-at-preserved
loop-at-preserved c =
    let k = view_of c.args.chunk.now in
    let at = c.loop-at.at in
    let from = c.loop-at.from in
    let fill = next_fill k.tree k.kind k.items from at k.ends c.loop-at-test.true c.loop-at.invariant.fill in
    let w : c.width_of-width.result ≡ kind_width k.tree = c.width_of-width.ensures in
    let more : columns (kind_width k.tree) * (at + 1) ≡ columns (kind_width k.tree) * at + columns (kind_width k.tree) = next_row (kind_width k.tree) at in
    let same = ap columns w in
    let words_len = c.push_words.ensures.len in
    let heads_len = c.push_head.ensures.len in
    let words_room = c.push_words.ensures.capacity in
    let inv = c.loop-at.invariant in
    record {
      words = step_words c.width_of-width.result (kind_width k.tree) w k.kind k.items from at k.parents k.ends c.loop-at-test.true c.requires.rows.parents c.loop-at.words.items c.push_words.new.words.items (c.args.words.now.items ++ chunk_words k) c.push_words.ensures.words inv.words;
      heads = step_heads c.finds_room-gapped.result (finds_room k.tree) c.finds_room-gapped.ensures k.kind k.items from at k.number c.first_index-first.result k.ends c.loop-at-test.true fill.0 fill.1 c.first_index-first.ensures c.loop-at.heads.items c.push_head.new.heads.items (c.args.heads.now.items ++ heads_in k) c.push_head.ensures.heads inv.heads;
      fill = fill.4;
      words_len = omega (arith, words_len, more, same, inv.words_len);
      heads_len = omega (arith, heads_len, inv.heads_len);
      words_room = omega (arith, words_room, inv.words_room);
      heads_room = c.push_head.ensures.capacity ∙ inv.heads_room;
      buffer = c.push_words.ensures.buffer ∙ same;
    }
