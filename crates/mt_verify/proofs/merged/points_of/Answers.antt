use Rattle.mt_verify.proofs.Prelude.{◌≡◌, ◌+◌, ◌<◌, ℕ, List, ◌++◌, [], ◌∷◌, true, length, set, take, get_or, sym, ap, ◌∙◌, subst, Vec, Global, slice_index, with_items, take_all, take_more, with_items_is, Store, ToldLine, Wrote, is_got, cell_of, points_at, most_lanes}
use Rattle.mt_verify.proofs.Merging.{IsMerged, all_own, has_next, have_all, idle, merged_by, one_more}
use Rattle.mt_verify.proofs.merged.points_of.Goals as goal
use Rattle.mt_verify.proofs.merged.points_of.Goals.{then-is_read+in_ok-push, else-is_read}

-- what the code reads where no line stands
abbrev no_line : ToldLine
no_line = record { line = 0; lane = 0; phase = 0; tree = 0; what = Wrote 0 (Store 0 0 0) (record { ref_ptr = (0, 0); now = [] }) }

pub next_point-requires-clause-room : goal.next_point-requires-clause-room
next_point-requires-clause-room c =
    let t : ToldLine = get_or c.args.told.now c.loop-one.one-index no_line in
    let before : c.loop-one.one-index < length c.args.told.now = c.loop-one-test.true in
    let got : is_got t.what ≡ true = sym c.is_read.ensures ∙ c.if-is_read.true in
    subst (λ (u : List ℕ). slice_index u (cell_of t.tree t.lane) < length (points_at c.args.gone.now t.tree t.lane)) (sym c.deref_mut.ensures.value)
    (has_next c.args.gone.now c.args.told.now c.loop-one.one-index no_line c.loop-one.used.items c.loop-one.points.items before (have_all c.args.gone.now c.args.told.now c.requires.looks c.requires.done) c.loop-one.invariant (c.requires.trees c.loop-one.one-index no_line before) (c.requires.lanes c.loop-one.one-index no_line before) got).1

pub loop-one-preserved : goal.loop-one-preserved
loop-one-preserved c =
    let t : ToldLine = get_or c.args.told.now c.loop-one.one-index no_line in
    let before : c.loop-one.one-index < length c.args.told.now = c.loop-one-test.true in
    let next : take c.loop-one.one-index c.args.told.now ++ t ∷ [] ≡ take (c.loop-one.one-index + 1) c.args.told.now = sym (take_more c.args.told.now c.loop-one.one-index no_line before) in
    elim c.if-is_read.branch [
      | then-is_read+in_ok-push w ↦
          (let got : is_got t.what ≡ true = sym c.is_read.ensures ∙ w.if-is_read.true in
          let there : t.tree < length c.args.gone.now = c.requires.trees c.loop-one.one-index no_line before in
          let on : t.lane < most_lanes = c.requires.lanes c.loop-one.one-index no_line before in
          let some = has_next c.args.gone.now c.args.told.now c.loop-one.one-index no_line c.loop-one.used.items c.loop-one.points.items before (have_all c.args.gone.now c.args.told.now c.requires.looks c.requires.done) c.loop-one.invariant there on got in
          let place : ℕ = slice_index c.loop-one.used.items (cell_of t.tree t.lane) in
          let used : set c.loop-one.used.items (cell_of t.tree t.lane) (place + 1) ≡ w.next_point.new.used =
          sym (w.next_point.ensures.used ∙ ap (λ (u : List ℕ). set u (cell_of t.tree t.lane) (slice_index u (cell_of t.tree t.lane) + 1)) w.deref_mut.ensures.value) in
          let point : w.next_point.result ≡ slice_index (points_at c.args.gone.now t.tree t.lane) place =
          w.next_point.ensures.point ∙ ap (λ (u : List ℕ). slice_index (points_at c.args.gone.now t.tree t.lane) (slice_index u (cell_of t.tree t.lane))) w.deref_mut.ensures.value in
          let written : (with_items c.loop-one.used w.next_point.new.used).items ≡ w.next_point.new.used = with_items_is c.loop-one.used w.next_point.new.used (w.next_point.auto.used ∙ w.deref_mut.ensures.len) in
          let points : c.loop-one.points.items ++ slice_index (points_at c.args.gone.now t.tree t.lane) place ∷ [] ≡ c.if-is_read.points.items =
          ap (λ n. c.loop-one.points.items ++ n ∷ []) (sym point) ∙ (sym w.in_ok-push.ensures.items ∙ sym (ap (λ (v : Vec ℕ Global). v.items) w.points-is)) in
          merged_by c.args.gone.now (take c.loop-one.one-index c.args.told.now ++ t ∷ []) (take (c.loop-one.one-index + 1) c.args.told.now)
          (set c.loop-one.used.items (cell_of t.tree t.lane) (place + 1)) c.if-is_read.used.items (c.loop-one.points.items ++ slice_index (points_at c.args.gone.now t.tree t.lane) place ∷ []) c.if-is_read.points.items next (used ∙ (sym written ∙ sym (ap (λ (v : Vec ℕ Global). v.items) w.used-is))) points
          (one_more c.args.gone.now (take c.loop-one.one-index c.args.told.now) t c.loop-one.used.items c.loop-one.points.items c.loop-one.invariant got there on some.1))
      | else-is_read w ↦
          merged_by c.args.gone.now (take c.loop-one.one-index c.args.told.now ++ t ∷ []) (take (c.loop-one.one-index + 1) c.args.told.now)
          c.loop-one.used.items c.if-is_read.used.items c.loop-one.points.items c.if-is_read.points.items next (sym (ap (λ (v : Vec ℕ Global). v.items) w.used-is)) (sym (ap (λ (v : Vec ℕ Global). v.items) w.points-is))
          (idle c.args.gone.now (take c.loop-one.one-index c.args.told.now) t c.loop-one.used.items c.loop-one.points.items (sym c.is_read.ensures ∙ w.if-is_read.false) c.loop-one.invariant)
    ]

pub returns-clause-lanes : goal.returns-clause-lanes
returns-clause-lanes c =
    all_own c.args.gone.now c.args.told.now c.requires.looks c.requires.done c.loop-one.used.items c.loop-one.points.items
    (subst (λ (l : List ToldLine). IsMerged c.args.gone.now l c.loop-one.used.items c.loop-one.points.items) (take_all c.loop-one.one-index c.args.told.now c.loop-one-test.false) c.loop-one.invariant)
