-- Lines are counted one after another, phase by phase.
use Rattle.mt_verify.proofs.Prelude.{◌≡◌, ℕ, ◌+◌, ◌<◌, ◌≤◌, List, [], ◌∷◌, ◌++◌, Option, Some, None, length, get_or, take, drop, refl, sym, ap, ◌∙◌, subst, inl, inr, arith, AllByRecursion, AllPairs, filter_map, cons_option, option_to_list, cases_lt, lt-ltb, le-ltb, take-append-drop, take_more, take_all, drop_more, get_or-drop, length-drop, get_or_default, filter_map-append, recursion_from_All, all_join, all_map, ToldLine, What, Wrote, Got, Copied, Lawful, Counting, Stop, calls_below, calls_in, entered, stop_at, stops_told}

-- how many calls these lines tell, and how many of lower phases than this one
abbrev pub calls_of : List ToldLine → ℕ
calls_of [] = 0
calls_of (t ∷ own) = calls_in t.what + calls_of own

-- ---- sums over lists

of_append : (xs ys : List ToldLine) → calls_of (xs ++ ys) ≡ calls_of xs + calls_of ys
of_append [] ys = omega arith
of_append (x ∷ xs) ys = omega (arith, of_append xs ys)

below_append : (phase : ℕ) (xs ys : List ToldLine) → calls_below (xs ++ ys) phase ≡ calls_below xs phase + calls_below ys phase
below_append phase [] ys = omega arith
below_append phase (x ∷ xs) ys = omega (arith, below_append phase xs ys)

-- lines of lower phases count, and others do not
all_below : (phase : ℕ) (xs : List ToldLine) → AllByRecursion (λ (t : ToldLine). t.phase < phase) xs → calls_below xs phase ≡ calls_of xs
all_below phase [] low = refl
all_below phase (x ∷ xs) low = rw (lt-ltb x.phase phase low.0, all_below phase xs low.1) refl

none_below : (phase : ℕ) (xs : List ToldLine) → AllByRecursion (λ (t : ToldLine). phase ≤ t.phase) xs → calls_below xs phase ≡ 0
none_below phase [] high = refl
none_below phase (x ∷ xs) high = rw (le-ltb x.phase phase high.0, none_below phase xs high.1) refl

-- ---- one line more

-- the first lines were counted
pub record IsCounting (own : List ToldLine) (i : ℕ) (c : Counting) (found : List Stop) : Type 0 where
  pub within : i ≤ length own
  pub calls : c.calls ≡ calls_of (take i own)
  pub before : c.before ≡ calls_below (take i own) c.phase
  pub upto : AllByRecursion (λ (t : ToldLine). t.phase ≤ c.phase) (take i own)
  pub later : AllByRecursion (λ (t : ToldLine). c.phase ≤ t.phase) (drop i own)
  pub stops : found ≡ filter_map (λ (t : ToldLine). stop_at (calls_below own t.phase) t.what) (take i own)

-- what stands behind a place, in order
behind_place : (own : List ToldLine) (i : ℕ) (d : ToldLine) → i < length own → AllPairs (λ (s : ToldLine) (t : ToldLine). s.phase ≤ t.phase) own → AllByRecursion (λ (t : ToldLine). (get_or own i d).phase ≤ t.phase) (drop (i + 1) own)
behind_place own i d within rising = recursion_from_All (λ (t : ToldLine). (get_or own i d).phase ≤ t.phase) (drop (i + 1) own) (λ j e below.
    (let there : get_or (drop (i + 1) own) j e ≡ get_or own (i + 1 + j) e = get_or-drop (i + 1) own j e in
    let far : i + 1 + j < length own = omega (arith, below, length-drop (i + 1) own) in
    let pair : (get_or own i e).phase ≤ (get_or own (i + 1 + j) e).phase = rising i (i + 1 + j) e (omega arith) far in
    let here : get_or own i d ≡ get_or own i e = get_or_default own i d e within in
    omega (arith, pair, ap (λ (x : ToldLine). x.phase) there, ap (λ (x : ToldLine). x.phase) here)))

module _ (own : List ToldLine) (i : ℕ) (d : ToldLine) (within : i < length own) (rising : AllPairs (λ (s : ToldLine) (t : ToldLine). s.phase ≤ t.phase) own) where
  abbrev line : ToldLine
  line = get_or own i d

  split : own ≡ take i own ++ (line ∷ drop (i + 1) own)
  split = sym (take-append-drop i own) ∙ ap (λ (l : List ToldLine). take i own ++ l) (drop_more own i d within)

  high : AllByRecursion (λ (t : ToldLine). line.phase ≤ t.phase) (line ∷ drop (i + 1) own)
  high = (omega arith, behind_place own i d within rising)

  below_here : calls_below own line.phase ≡ calls_below (take i own) line.phase
  below_here =
      let all : calls_below own line.phase ≡ calls_below (take i own ++ (line ∷ drop (i + 1) own)) line.phase = ap (λ (l : List ToldLine). calls_below l line.phase) split in
      omega (arith, all, below_append line.phase (take i own) (line ∷ drop (i + 1) own), none_below line.phase (line ∷ drop (i + 1) own) high)

  -- the phase is entered
  pub record HasEntered (c c' : Counting) : Type 0 where
    pub phase : c'.phase ≡ line.phase
    pub before : c'.before ≡ calls_below (take i own) line.phase
    pub calls : c'.calls ≡ c.calls
    pub low : c.phase ≤ line.phase

  pub entering : (c : Counting) (found : List Stop) → IsCounting own i c found → HasEntered c (entered line.phase c)
  entering c found is =
      let low : c.phase ≤ line.phase = (subst (AllByRecursion (λ (t : ToldLine). c.phase ≤ t.phase)) (drop_more own i d within) is.later).0 in
      elim (cases_lt c.phase line.phase) [
        | inl less ↦
            let each : AllByRecursion (λ (t : ToldLine). t.phase < line.phase) (take i own) = all_map (λ (t : ToldLine). t.phase ≤ c.phase) (λ (t : ToldLine). t.phase < line.phase) (λ t up. omega (arith, up, less)) (take i own) is.upto in
            rw (lt-ltb c.phase line.phase less) (record { phase = refl; before = is.calls ∙ sym (all_below line.phase (take i own) each); calls = refl; low = low })
        | inr le ↦
            let same : c.phase ≡ line.phase = omega (arith, low, le) in
            rw (le-ltb c.phase line.phase le) (record { phase = same; before = is.before ∙ ap (calls_below (take i own)) same; calls = refl; low = low })
      ]

  abbrev stop_told : ToldLine → Option Stop
  stop_told t = stop_at (calls_below own t.phase) t.what

  pub counted_more : (c c' : Counting) (found : List Stop) → IsCounting own i c found → c' ≡ record (entered line.phase c) { calls = (entered line.phase c).calls + calls_in line.what }
      → IsCounting own (i + 1) c' (found ++ option_to_list (stop_at (entered line.phase c).before line.what))
  counted_more c c' found is after =
      let e = entering c found is in
      let more : take (i + 1) own ≡ take i own ++ line ∷ [] = take_more own i d within in
      let phase : c'.phase ≡ line.phase = ap (λ (x : Counting). x.phase) after ∙ e.phase in
      let before : c'.before ≡ calls_below (take i own) line.phase = ap (λ (x : Counting). x.before) after ∙ e.before in
      let calls : c'.calls ≡ (entered line.phase c).calls + calls_in line.what = ap (λ (x : Counting). x.calls) after in
      record {
        within = omega (arith, within);
        calls = omega (arith, calls, e.calls, is.calls, ap calls_of more, of_append (take i own) (line ∷ []));
        before =
            (let own_none : calls_below (line ∷ []) line.phase ≡ 0 = none_below line.phase (line ∷ []) (omega arith, tt) in
            before ∙ (omega (arith, own_none, below_append line.phase (take i own) (line ∷ []), ap (λ (l : List ToldLine). calls_below l line.phase) more) ∙ ap (calls_below (take (i + 1) own)) (sym phase)));
        upto = subst (AllByRecursion (λ (t : ToldLine). t.phase ≤ c'.phase)) (sym more) (all_join (λ (t : ToldLine). t.phase ≤ c'.phase) (take i own) (line ∷ []) (all_map (λ (t : ToldLine). t.phase ≤ c.phase) (λ (t : ToldLine). t.phase ≤ c'.phase) (λ t up. omega (arith, up, e.low, phase)) (take i own) is.upto) (omega (arith, phase), tt));
        later = all_map (λ (t : ToldLine). line.phase ≤ t.phase) (λ (t : ToldLine). c'.phase ≤ t.phase) (λ t up. omega (arith, up, phase)) (drop (i + 1) own) (behind_place own i d within rising);
        stops =
            (let here : (entered line.phase c).before ≡ calls_below own line.phase = e.before ∙ sym below_here in
            let last : option_to_list (stop_at (entered line.phase c).before line.what) ≡ filter_map stop_told (line ∷ []) = ap (λ (n : ℕ). option_to_list (stop_at n line.what)) here ∙ one (stop_told line) in
            (λ k. is.stops k ++ last k) ∙ (sym (filter_map-append stop_told (take i own) (line ∷ [])) ∙ ap (filter_map stop_told) (sym more)));
      }
    where
      one : (o : Option Stop) → option_to_list o ≡ cons_option o []
      one None = refl
      one (Some s) = refl

-- ---- before and behind all lines

pub counted_none : (own : List ToldLine) → IsCounting own 0 (record { phase = 0; before = 0; calls = 0 }) []
counted_none own = record { within = omega arith; calls = refl; before = refl; upto = tt; later = from_zero own; stops = refl }
  where
    from_zero : (own : List ToldLine) → AllByRecursion (λ (t : ToldLine). 0 ≤ t.phase) own
    from_zero [] = tt
    from_zero (t ∷ own) = (omega arith, from_zero own)

pub counted_all : (own : List ToldLine) (i : ℕ) (c : Counting) (found : List Stop) → IsCounting own i c found → length own ≤ i → found ≡ stops_told own
counted_all own i c found is past = is.stops ∙ ap (filter_map (λ (t : ToldLine). stop_at (calls_below own t.phase) t.what)) (take_all i own past)

pub few_calls : (own : List ToldLine) → calls_of own ≤ length own
few_calls [] = omega arith
few_calls (t ∷ own) = omega (arith, few_calls own, few t.what)
  where
    few : (w : What) → calls_in w ≤ 1
    few (Wrote number call reply) = omega arith
    few (Got lo hi query told) = omega arith
    few (Copied count) = omega arith
    few (Lawful count) = omega arith
