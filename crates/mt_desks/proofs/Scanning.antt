-- A scan goes on read after read.
use Rattle.mt_desks.proofs.Prelude.{◌≡◌, ℕ, zero, suc, List, [], ◌∷◌, ◌++◌, Option, Some, None, map, refl, sym, ap, ◌∙◌, subst, append_assoc, arith, eq-eqb, append-nil, map-append, filter_map-append, Range, History, Pass, Entry, Asked, Step, Outcome, Looked, AreScanSteps, entry_of, step_of, find_at, place_after, Does, Leads, Learns, by_lane_on, outcomes_of, learns_none, leads_last, leads_one, leads_on, stands_otherwise, IsLooked, IsScanDone, KeepsOne, Walk, HasWalkedOn, OpensOnce, opened_at, place_behind}

-- one step of a line, on its tree
pub step_leads : (tree : History) (number : ℕ) (a : Asked) (p q : Pass) (o : Outcome) → Does tree p o q → Leads tree p (outcomes_of number a.lane (step_of a number o ∷ [])) q
step_leads tree number a p q o does =
    let one : outcomes_of number a.lane (step_of a number o ∷ []) ≡ o ∷ [] = rw (eq-eqb number number refl, eq-eqb a.lane a.lane refl) refl in
    subst (λ (z : List Outcome). Leads tree p z q) (sym one) (leads_one tree p o q does)

-- a scan that is to go on with so many reads, from the place here
pub record ScansSoFar (a : Asked) (number max count : ℕ) (at : Option ℕ) (left : ℕ) (here : Option ℕ) (tree : History) (p q : Pass) (room room' : List Entry) : Type 0 where
  pub steps : List Step
  pub goes : (rest : List Step) → AreScanSteps a number max left here rest → AreScanSteps a number max count at (steps ++ rest)
  pub leads : Leads tree p (outcomes_of number a.lane steps) q
  pub told : room' ≡ room ++ map entry_of steps

pub scan_starts : (a : Asked) (number max count : ℕ) (at : Option ℕ) (tree : History) (p : Pass) (room : List Entry) → ScansSoFar a number max count at count at tree p p room room
scan_starts a number max count at tree p room = record { steps = []; goes = λ rest scan. scan; leads = learns_none p; told = sym (append-nil room) }

-- one step more, and some entries more
more_leads : (tree : History) (number : ℕ) (a : Asked) (p q r : Pass) (steps : List Step) (o : Outcome) → Leads tree p (outcomes_of number a.lane steps) q → Does tree q o r → Leads tree p (outcomes_of number a.lane (steps ++ step_of a number o ∷ [])) r
more_leads tree number a p q r steps o leads does =
    subst (λ (z : List Outcome). Leads tree p z r) (sym (filter_map-append (by_lane_on number a.lane) steps (step_of a number o ∷ [])))
    (leads_on tree p (outcomes_of number a.lane steps) q (outcomes_of number a.lane (step_of a number o ∷ [])) r leads (step_leads tree number a q r o does))

pub more_told : (room room' room'' : List Entry) (steps more : List Step) → room' ≡ room ++ map entry_of steps → room'' ≡ room' ++ map entry_of more → room'' ≡ room ++ map entry_of (steps ++ more)
more_told room room' room'' steps more e f = f ∙ (ap (λ z. z ++ map entry_of more) e ∙ (append_assoc room (map entry_of steps) (map entry_of more) ∙ ap (λ z. room ++ z) (sym (map-append entry_of steps more))))

pub scan_goes_on : (a : Asked) (number max count : ℕ) (at : Option ℕ) (left : ℕ) (here : Option ℕ) (tree : History) (p q r : Pass) (room room' room'' : List Entry) (x : Range) → ScansSoFar a number max count at (suc left) here tree p q room room' → IsLooked a.line tree (find_at here max) (Some x) q r room' room'' → ScansSoFar a number max count at left (place_after max x) tree p r room room''
scan_goes_on a number max count at left here tree p q r room room' room'' x f s =
    let step : Step = step_of a number (Looked s.lo s.hi s.k (find_at here max) (Some x)) in
    record {
      steps = f.steps ++ step ∷ [];
      goes = λ rest scan. subst (λ (z : List Step). AreScanSteps a number max count at z) (sym (append_assoc f.steps (step ∷ []) rest)) (f.goes (step ∷ rest) (s.lo, s.hi, s.k, Some x, rest, refl, scan));
      leads = more_leads tree number a p q r f.steps (Looked s.lo s.hi s.k (find_at here max) (Some x)) f.leads s.read;
      told = more_told room room' room'' f.steps (step ∷ []) f.told s.told;
    }

pub scan_finds_none : (a : Asked) (number max count : ℕ) (at : Option ℕ) (left : ℕ) (here : Option ℕ) (tree : History) (p q r : Pass) (room room' room'' : List Entry) → ScansSoFar a number max count at (suc left) here tree p q room room' → IsLooked a.line tree (find_at here max) None q r room' room'' → IsScanDone a number max count at tree p r room room''
scan_finds_none a number max count at left here tree p q r room room' room'' f s =
    let step : Step = step_of a number (Looked s.lo s.hi s.k (find_at here max) None) in
    record {
      steps = f.steps ++ step ∷ [];
      scan = f.goes (step ∷ []) (s.lo, s.hi, s.k, None, [], refl, refl);
      leads = more_leads tree number a p q r f.steps (Looked s.lo s.hi s.k (find_at here max) None) f.leads s.read;
      told = more_told room room' room'' f.steps (step ∷ []) f.told s.told;
    }

pub scan_ends : (a : Asked) (number max count : ℕ) (at here : Option ℕ) (tree : History) (p q : Pass) (room room' : List Entry) → ScansSoFar a number max count at zero here tree p q room room' → IsScanDone a number max count at tree p q room room'
scan_ends a number max count at here tree p q room room' f = record {
  steps = f.steps;
  scan = subst (λ (z : List Step). AreScanSteps a number max count at z) (append-nil f.steps) (f.goes [] refl);
  leads = f.leads;
  told = f.told;
}

-- ---- a scan by a walk

-- the same walk, but for its pass, the steps of that and its place
abbrev pub IsSameWalk : Walk → Walk → Type 0
IsSameWalk w w' = w' ≡ record w { pass = w'.pass; steps = w'.steps; at = w'.at }

-- a walk that has made a step
abbrev pub HasGoneOn : Walk → Option Range → Walk → Type 0
HasGoneOn w value w' = w' ≡ record w { pass = w'.pass; steps = w'.steps; at = place_behind value w.max }

pub walk_starts : (w : Walk) → KeepsOne w.pass w
walk_starts w = record { once = record { epochs = []; opened = sym (append-nil w.pass.opened); once = omega arith }; none = λ shut. refl }

pub keeps_one : (lo hi : ℕ) (value : Option Range) (w w' : Walk) → HasWalkedOn lo hi value w w' → (p : Pass) → KeepsOne p w → KeepsOne p w'
keeps_one lo hi value w w' walked p keeps = record { once = by w.pass.standing refl; none = λ shut. absurd (walked.stands shut) }
  where
    by : (o : Option ℕ) → w.pass.standing ≡ o → OpensOnce p w'.pass
    by None is = record {
      epochs = lo ∷ [];
      opened = walked.opened ∙ (ap (λ (z : Option ℕ). opened_at lo z w.pass.opened) is ∙ ap (λ (epochs : List ℕ). epochs ++ lo ∷ []) (keeps.none is));
      once = omega arith;
    }
    by (Some epoch) is = record {
      epochs = keeps.once.epochs;
      opened = walked.opened ∙ (ap (λ (z : Option ℕ). opened_at lo z w.pass.opened) is ∙ keeps.once.opened);
      once = keeps.once.once;
    }

pub same_walk : (w here next : Walk) (value : Option Range) → IsSameWalk w here → HasGoneOn here value next → IsSameWalk w next
same_walk w here next value one two =
    let history : next.history ≡ w.history = ap (λ (z : Walk). z.history) two ∙ ap (λ (z : Walk). z.history) one in
    let reference : next.reference ≡ w.reference = ap (λ (z : Walk). z.reference) two ∙ ap (λ (z : Walk). z.reference) one in
    let max : next.max ≡ w.max = ap (λ (z : Walk). z.max) two ∙ ap (λ (z : Walk). z.max) one in
    λ i. record { history = history i; reference = reference i; pass = next.pass; steps = next.steps; at = next.at; max = max i }

looked_there : (line : ℕ) (w here : Walk) (value : Option Range) (q : Pass) (room room' : List Entry) → IsSameWalk w here → IsLooked line here.history (find_at here.at here.max) value here.pass q room room' → IsLooked line w.history (find_at here.at w.max) value here.pass q room room'
looked_there line w here value q room room' same looked = subst (λ (z : Walk). IsLooked line z.history (find_at here.at z.max) value here.pass q room room') same looked

pub walk_scans_on : (a : Asked) (number count left : ℕ) (w here next : Walk) (room room' room'' : List Entry) (x : Range) → IsSameWalk w here → HasGoneOn here (Some x) next → ScansSoFar a number w.max count w.at (suc left) here.at w.history w.pass here.pass room room'
    → IsLooked a.line here.history (find_at here.at here.max) (Some x) here.pass next.pass room' room'' → ScansSoFar a number w.max count w.at left next.at w.history w.pass next.pass room room''
walk_scans_on a number count left w here next room room' room'' x same gone so_far looked =
    let at : next.at ≡ place_after w.max x = ap (λ (z : Walk). z.at) gone ∙ ap (λ (z : Walk). place_after z.max x) same in
    subst (λ (z : Option ℕ). ScansSoFar a number w.max count w.at left z w.history w.pass next.pass room room'') (sym at)
    (scan_goes_on a number w.max count w.at left here.at w.history w.pass here.pass next.pass room room' room'' x so_far (looked_there a.line w here (Some x) next.pass room' room'' same looked))

pub walk_finds_none : (a : Asked) (number count left : ℕ) (w here next : Walk) (room room' room'' : List Entry) → IsSameWalk w here → ScansSoFar a number w.max count w.at (suc left) here.at w.history w.pass here.pass room room'
    → IsLooked a.line here.history (find_at here.at here.max) None here.pass next.pass room' room'' → IsScanDone a number w.max count w.at w.history w.pass next.pass room room''
walk_finds_none a number count left w here next room room' room'' same so_far looked =
    scan_finds_none a number w.max count w.at left here.at w.history w.pass here.pass next.pass room room' room'' so_far (looked_there a.line w here None next.pass room' room'' same looked)

pub scan_closes : (a : Asked) (number count : ℕ) (w here next : Walk) (room room' : List Entry) → next ≡ record here { pass = record here.pass { standing = None }; steps = next.steps }
    → IsScanDone a number w.max count w.at w.history w.pass here.pass room room' → IsScanDone a number w.max count w.at w.history w.pass next.pass room room'
scan_closes a number count w here next room room' closed s = record {
  steps = s.steps;
  scan = s.scan;
  leads = leads_last w.history w.pass (outcomes_of number a.lane s.steps) here.pass next.pass s.leads (subst (λ (z : Walk). Learns here.pass z.pass) (sym closed) (stands_otherwise here.pass None));
  told = s.told;
}
