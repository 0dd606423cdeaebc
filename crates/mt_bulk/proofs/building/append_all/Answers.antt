use Rattle.mt_bulk.proofs.Prelude.{◌≡◌, ◌+◌, ◌≤◌, take, length, ap, ◌∙◌, arith, length-append, slice_index_or, Lane, LeafDesk, heads_made, words_made}
use Rattle.mt_bulk.proofs.Laying.{fits_in}
use Rattle.mt_bulk.proofs.building.append_all.Goals as goal

pub append-requires : goal.append-requires
append-requires c =
    let lanes = c.args.lanes.now in
    let at = c.loop-lane.lane-index in
    let lane = c.lane-item.result in
    let fits : length (words_made (take at lanes)) + length (slice_index_or lanes at lane).desk.words.items ≤ length (words_made lanes) = fits_in (λ (l : Lane LeafDesk). l.desk.words.items) lanes at lane c.loop-lane-test.true in
    let own : length c.deref.result.now ≡ length (slice_index_or lanes at lane).desk.words.items = ap length c.deref.ensures.value ∙ ap (λ (l : Lane LeafDesk). length l.desk.words.items) c.lane-item.is in
    let long = ap length c.loop-lane.invariant.words in
    let both = length-append c.args.words.now.items (words_made (take at lanes)) in
    let room = c.requires.words in
    let kept = c.loop-lane.invariant.words_room in
    omega (arith, fits, own, long, both, room, kept, c.loop-lane.words.ok.0, c.args.words.now.ok.0)

pub append-requires-in-loop-lane : goal.append-requires-in-loop-lane
append-requires-in-loop-lane c =
    let lanes = c.args.lanes.now in
    let at = c.loop-lane.lane-index in
    let lane = c.lane-item.result in
    let fits : length (heads_made (take at lanes)) + length (slice_index_or lanes at lane).desk.heads.items ≤ length (heads_made lanes) = fits_in (λ (l : Lane LeafDesk). l.desk.heads.items) lanes at lane c.loop-lane-test.true in
    let own : length c.deref-in-loop-lane.result.now ≡ length (slice_index_or lanes at lane).desk.heads.items = ap length c.deref-in-loop-lane.ensures.value ∙ ap (λ (l : Lane LeafDesk). length l.desk.heads.items) c.lane-item.is in
    let long = ap length c.loop-lane.invariant.heads in
    let both = length-append c.args.heads.now.items (heads_made (take at lanes)) in
    let room = c.requires.heads in
    let kept = c.loop-lane.invariant.heads_room in
    omega (arith, fits, own, long, both, room, kept, c.loop-lane.heads.ok.0, c.args.heads.now.ok.0)
