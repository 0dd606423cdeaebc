-- Where a lane can have no numbers, no run is told alike; and a run whose lanes are picked has the least points of all that are.
use Rattle.mt_verify.proofs.Prelude.{◌≡◌, ℕ, suc, ◌==◌, List, [], ◌∷◌, Some, None, get_or, slice_get, cond, refl, sym, subst, arith, cons_option, slice_get_within, Range, History, map_at, Log, Transcript, Outcome, Called, Looked, Counted, Step, IsRunBy, IsReadable, ToldRead, LanesArePicked, look_of, by_lane, looks_on, points_on, MayHave, points_of, AreUpTo, OutcomesAlike, StepsAlike, AreToldAlike, HaveHistories}
use Rattle.mt_verify.proofs.Alike.{run_histories, same_below, way_maps}
use Rattle.mt_verify.proofs.AllLanes.{all_first}
use Rattle.mt_verify.proofs.CopiedTrees.{copies_are_earlier}
use Rattle.mt_verify.proofs.EachLane.{lane_may_have}
use Rattle.mt_verify.proofs.PointLists.{least_points}
use Rattle.mt_verify.proofs.Runs.{some_at}

look_same : (o o' : Outcome) → OutcomesAlike o o' → look_of o ≡ look_of o'
look_same (Called n c r) (Called n' c' r') a = refl
look_same (Called n c r) (Looked lo' hi' k' q' v') a = absurd a
look_same (Called n c r) (Counted said' ranges') a = absurd a
look_same (Looked lo hi k q v) (Called n' c' r') a = absurd a
look_same (Looked lo hi k q v) (Looked lo' hi' k' q' v') a = λ i. Some (record { lo = a.0 i; hi = a.1 i; query = a.2 i; told = a.3 i })
look_same (Looked lo hi k q v) (Counted said' ranges') a = absurd a
look_same (Counted said ranges) (Called n' c' r') a = absurd a
look_same (Counted said ranges) (Looked lo' hi' k' q' v') a = absurd a
look_same (Counted said ranges) (Counted said' ranges') a = refl

own_same : (tree lane : ℕ) (s s' : Step) → StepsAlike s s' → by_lane look_of tree lane s ≡ by_lane look_of tree lane s'
own_same tree lane s s' a = λ i. cond (a.tree i == tree) (cond (a.lane i == lane) (look_same s.outcome s'.outcome a.outcome i) None) None

pub looks_same : (tree lane : ℕ) (steps steps' : List Step) → AreToldAlike steps steps' → looks_on tree lane steps ≡ looks_on tree lane steps'
looks_same tree lane [] [] told = refl
looks_same tree lane [] (s' ∷ steps') told = absurd told
looks_same tree lane (s ∷ steps) [] told = absurd told
looks_same tree lane (s ∷ steps) (s' ∷ steps') told = λ i. cons_option (own_same tree lane s s' told.0 i) (looks_same tree lane steps steps' told.1 i)

pub none_refuses : (log : Log) (rows : ℕ) (t' : Transcript) (steps steps' : List Step) (trees trees' : List History) → IsReadable log.lines → HaveHistories log steps trees
    → (tree lane : ℕ) (h : History) → slice_get trees tree ≡ Some h → ((k : ℕ → ℕ) → MayHave (map_at h) (looks_on tree lane steps) k → ⊥) → IsRunBy log rows t' steps' trees' → AreToldAlike steps steps' → ⊥
none_refuses log rows t' steps steps' trees trees' readable have tree lane h is none run' told =
    let have' = run_histories log rows t' steps' trees' run' in
    let g = some_at trees' tree (omega (arith, have.count, have'.count, slice_get_within trees tree h is)) in
    let way = same_below log steps steps' trees trees' have have' told (copies_are_earlier log.lines readable) (suc tree) tree h g.0 (omega arith) is g.1 in
    let maps : map_at h ≡ map_at g.0 = λ i k. way_maps h g.0 k way i in
    let looks = looks_same tree lane steps steps' told in
    none (λ i. get_or (points_on tree lane steps') i 0)
    (subst (λ (x : (ℕ → List Range) × List ToldRead). MayHave x.0 x.1 (λ i. get_or (points_on tree lane steps') i 0)) (λ i. (sym maps i, sym looks i)) (lane_may_have log rows t' steps' trees' run' tree lane g.0 g.1))

pub picked_is_the_least : (log : Log) (rows : ℕ) (t t' : Transcript) (steps steps' : List Step) (trees trees' : List History) → IsReadable log.lines → IsRunBy log rows t steps trees → LanesArePicked steps trees
    → IsRunBy log rows t' steps' trees' → AreToldAlike steps steps' → AreUpTo (points_of steps) (points_of steps')
picked_is_the_least log rows t t' steps steps' trees trees' readable run picked run' told =
    least_points log rows t t' steps steps' trees trees' run run' told (copies_are_earlier log.lines readable) (all_first log rows t steps trees run picked)
