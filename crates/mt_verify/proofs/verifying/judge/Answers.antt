use Rattle.mt_verify.proofs.Prelude.{◌≡◌, ℕ, List, [], Option, Some, Vec, Global, length, slice_get, sym, ap, ◌∙◌, subst, IfNone, IfSome, All, AllPairs, true≢false, trees_of, ToldLine, HaveGoneTo, NoneIsTold, reads_count, own_points, Lane, GoneTree, HasGone, lane_looks, AreLeastPoints, EndsInTree, InPrintedOrder}
use Rattle.mt_verify.proofs.AllFound.{all_found, has_gone}
use Rattle.mt_verify.proofs.FoundVerdict.{is_least, no_run, not_ended, not_in_order}
use Rattle.mt_verify.proofs.verifying.judge.Goals as goal
use Rattle.mt_verify.proofs.verifying.judge.Goals.{After-deref-4, then-not-windows_keep-via-then-not-windows_keep, then-not-windows_keep-via-else-not-windows_keep+then-not-windows_end}

-- every declared tree was gone through, up to the end of the text
count : (c : After-deref-4) → length c.in-Some.gone.items ≡ length (trees_of c.args.log.now.lines)
count c =
    let lines : c.in_ok-trees.trees.items ≡ trees_of c.args.log.now.lines = c.in_ok-trees.ensures ∙ ap trees_of c.as_slice.ensures in
    subst (λ (o : Option (Vec GoneTree Global)). IfSome o (λ gone. length gone.items ≡ length c.deref-2.result.now)) c.in-Some.is c.in_ok-gone.ensures.count ∙ ap length (c.deref-2.ensures.value ∙ lines)

to : (c : After-deref-4) → HaveGoneTo c.args.log.now c.args.rows c.args.account.now.told.items c.args.account.now.rest.now c.in-Some.gone.items []
to c =
    subst (λ (o : Option (Vec GoneTree Global)). IfSome o (λ gone. HaveGoneTo c.args.log.now c.args.rows c.args.account.now.told.items c.args.account.now.rest.now gone.items [])) c.in-Some.is c.in_ok-gone.ensures.some

has : (c : After-deref-4) (tree : ℕ) (g : GoneTree) → slice_get c.deref-4.result.now tree ≡ Some g → HasGone c.args.log.now.version c.args.rows c.args.account.now.told.items tree g
has c tree g is =
    has_gone c.args.log.now c.args.rows c.args.text.now c.args.account.now.told.items c.args.account.now.rest.now c.in-Some.gone.items [] c.requires.told (to c) (count c) tree g (ap (λ (l : List GoneTree). slice_get l tree) (sym c.deref-4.ensures.value) ∙ is)

pub go_all-requires-clause-case : goal.go_all-requires-clause-case
go_all-requires-clause-case c = record {
  readable = c.requires.log;
  few_rows = c.requires.rows;
  few = c.requires.few;
  trees = c.requires.told.trees;
  lanes = c.requires.told.lanes;
  phases = c.requires.told.phases;
  within = subst (λ (l : List ToldLine). All (EndsInTree l) l) c.deref-else-not-windows_keep.ensures.value (c.windows_end.ensures.0 c.if-not-windows_end.false);
}

pub returns-then-not-windows_keep : goal.returns-then-not-windows_keep
returns-then-not-windows_keep c = elim c.then-not-windows_keep.branch [
  | then-not-windows_keep-via-then-not-windows_keep w ↦
      no_run c.args.log.now c.args.rows c.args.text.now c.requires.small c.args.account.now.told.items c.args.account.now.rest.now c.requires.told
      (not_in_order c.args.log.now c.args.rows c.args.text.now c.requires.small c.args.account.now.told.items c.args.account.now.rest.now c.requires.told
      (λ pairs. true≢false (sym (c.windows_keep.ensures.1 (subst (AllPairs InPrintedOrder) (sym c.deref.ensures.value) pairs)) ∙ w.if-not-windows_keep.true)))
  | then-not-windows_keep-via-else-not-windows_keep+then-not-windows_end w ↦
      no_run c.args.log.now c.args.rows c.args.text.now c.requires.small c.args.account.now.told.items c.args.account.now.rest.now c.requires.told
      (not_ended c.args.log.now c.args.rows c.args.text.now c.requires.small c.args.account.now.told.items c.args.account.now.rest.now c.requires.told
      (λ all. true≢false (sym (w.windows_end.ensures.1 (subst (λ (l : List ToldLine). All (EndsInTree l) l) (sym w.deref-else-not-windows_keep.ensures.value) all)) ∙ w.if-not-windows_end.true)))
]

pub returns-in_default : goal.returns-in_default
returns-in_default c =
    no_run c.args.log.now c.args.rows c.args.text.now c.requires.small c.args.account.now.told.items c.args.account.now.rest.now c.requires.told
    (subst (λ (o : Option (Vec GoneTree Global)). IfNone o (NoneIsTold c.args.log.now c.args.rows c.args.account.now.told.items c.args.account.now.rest.now)) c.in_default.is c.in_ok-gone.ensures.none)

pub points_of-requires-clause-looks : goal.points_of-requires-clause-looks
points_of-requires-clause-looks c tree g is =
    (has (goal.at.points_of-requires-clause-looks c).After-deref-4 tree g is).looks ∙ ap (lane_looks tree) (sym c.deref-3.ensures.value)

pub points_of-requires-clause-done : goal.points_of-requires-clause-done
points_of-requires-clause-done c tree g is j lane at =
    ((has (goal.at.points_of-requires-clause-done c).After-deref-4 tree g is).least j lane at).count

pub returns : goal.returns
returns c =
    let at = (goal.at.returns c).After-deref-4 in
    let order : AllPairs InPrintedOrder c.args.account.now.told.items = subst (AllPairs InPrintedOrder) c.deref.ensures.value (c.windows_keep.ensures.0 c.if-not-windows_keep.false) in
    let ends : All (EndsInTree c.args.account.now.told.items) c.args.account.now.told.items = subst (λ (l : List ToldLine). All (EndsInTree l) l) c.deref-else-not-windows_keep.ensures.value (c.windows_end.ensures.0 c.if-not-windows_end.false) in
    let numbered : length c.in_ok-points.points.items ≡ reads_count c.args.account.now.told.items = c.in_ok-points.ensures.count ∙ ap reads_count c.deref-3.ensures.value in
    let own : (tree lane : ℕ) (g : GoneTree) (l : Lane) → slice_get c.in-Some.gone.items tree ≡ Some g → slice_get g.lanes lane ≡ Some l → own_points tree lane c.args.account.now.told.items c.in_ok-points.points.items ≡ l.points =
    λ tree lane g l is at. ap (λ (t : List ToldLine). own_points tree lane t c.in_ok-points.points.items) (sym c.deref-3.ensures.value) ∙ c.in_ok-points.ensures.lanes tree lane g l (ap (λ (x : List GoneTree). slice_get x tree) c.deref-4.ensures.value ∙ is) at in
    let found = all_found c.args.log.now c.args.rows c.args.text.now c.args.account.now.told.items c.args.account.now.rest.now c.in-Some.gone.items c.in_ok-points.points.items c.requires.told (to at) (count at) order ends numbered own in
    subst (AreLeastPoints c.args.log.now c.args.rows c.args.text.now) (sym c.new.ensures)
    (is_least c.args.log.now c.args.rows c.args.text.now c.requires.small c.args.account.now.told.items c.args.account.now.rest.now c.requires.told c.requires.log c.in-Some.gone.items c.in_ok-points.points.items (to at) found)
