-- What the calls of C on a shared tree say, read off what its user does.
use Rattle.mt_c.proofs.Prelude.{◌≡◌, ◌≢◌, ◌≤◌, ◌<◌, Bool, ℕ, refl, sym, ap, ◌∙◌, inl, inr, subst, Option, Some, None, [], ◌+◌, IfErr, Ok, Result, nat_le, if◌then◌else◌, le-leb, lt-leb, Call, Query, Kind, Range, kind_code, Busy, Field, Shape, most_made, first_bad, Read, Given, Tree, Takes, Purse, User, UserHandle, Left, Unchanged, Outcome, OutWalk, CallWindow, refusal, unopened, when_given, when_settled, when_synced, when_tried, when_unchanged, HasLeft, HasSettled, HasShared, HasSynced, HasTried, IsBadShape, IsFirstUser, IsMeant, IsUnchanged, IsOfPurse, IfClosed, IsSettledUser, IsShut, LeftBy, OnKept, OpensBeside, OpensOther, SettleResult, SharedClosed, SharedKept, StaysAs, IsShape, IsSynced, IsWhy, OnUser, WantsNoPlace, SharedAsked, SharedLearned, SharedLeft, SharedNew, SharedOpened, SharedPaused, SharedSettled, SharedStepped, SharedSynced, SharedTried, SharedWith, WentToSettle, answer_status, calls_in_c, common_of, cuts, field_status, known_to, no_outcome, no_window, outcome_of, paused, rested, settled_status, settled_told, synced_status, user_tree, tried_status, unchanged_status, went_on, window_of, Answer, GaveUp, IsEntry, IsWalkAnswer, IsOnNoWalk, IsTried, StepsFrom, Took, Tried, TriedOnce, WentOnce, knows, walk_index, IsLeftClosed}
use Rattle.mt_c.proofs.Using.{took_still}

pub on_open : (before after : UserHandle) (u v : User) (status : ℕ) (blank : Type 0) (says : User → User → Type 0) → before.kept.value ≡ Some u → after.kept.value ≡ Some v → common_of v ≡ common_of u → says u v → OnUser before after status blank says
on_open before after u v status blank says was is tree said = subst (λ (x : Option User × Option User). OnKept x.0 x.1 (StaysAs before after status × blank) says) (λ i. (sym was i, sym is i)) (tree, said)

pub on_closed : (before after : UserHandle) (status : ℕ) (blank : Type 0) (says : User → User → Type 0) → before.kept.value ≡ None → after ≡ before → status ≡ refusal after.state → blank → OnUser before after status blank says
on_closed before after status blank says was is number told = subst (λ (x : Option User). OnKept x after.kept.value (StaysAs before after status × blank) says) (sym was) ((is, number), told)

pub asked_open : (query : Query) (before after : UserHandle) (u v : User) (answer : Answer) (status : ℕ) (out : CallWindow) → before.kept.value ≡ Some u → after.kept.value ≡ Some v → common_of v ≡ common_of u → v.chair ≡ u.chair → v.receipts ≡ u.receipts
    → IsWalkAnswer (user_tree u) (known_to u) query answer (known_to v) → IsOnNoWalk v.walker → Took (most_made query) u.walker v.walker.pass → IfErr answer (GaveUp query u.walker v.walker)
    → status ≡ answer_status answer → out ≡ window_of answer → SharedAsked query before after status out
asked_open query before after u v answer status out was is common chair kept said rests took left number shown =
    on_open before after u v status _ _ was is common (answer, said, rests, took, left, record { common = common; chair = chair; receipts = kept }, number, shown)

pub asked_closed : (query : Query) (before after : UserHandle) (status : ℕ) (out : CallWindow) → before.kept.value ≡ None → after ≡ before → status ≡ refusal after.state → out ≡ no_window → SharedAsked query before after status out
asked_closed query before after status out was is number shown = on_closed before after status _ _ was is number shown

pub has_tried : (call : Call) (u v : User) (tried : Tried) (status : ℕ) (out : Outcome) → IsTried (user_tree u) (paused u) call tried (known_to v) → TriedOnce u.walker v.walker → v.chair ≡ u.chair → v.receipts ≡ when_tried tried u.receipts → status ≡ tried_status tried → out ≡ outcome_of tried
    → HasTried call status out u v
has_tried call u v tried status out said once chair kept number shown = (tried, said, once, chair, kept, number, shown)

pub tried_open : (call : Call) (before after : UserHandle) (u v : User) (status : ℕ) (out : Outcome) → before.kept.value ≡ Some u → after.kept.value ≡ Some v → common_of v ≡ common_of u → HasTried call status out u v → SharedTried call before after status out
tried_open call before after u v status out was is tree has = on_open before after u v status _ _ was is tree has

pub tried_closed : (call : Call) (before after : UserHandle) (status : ℕ) (out : Outcome) → before.kept.value ≡ None → after ≡ before → status ≡ refusal after.state → out ≡ no_outcome → SharedTried call before after status out
tried_closed call before after status out was is number shown = on_closed before after status _ _ was is number shown

pub stepped_open : (w w' : OutWalk) (from : Option ℕ) (before after : UserHandle) (u v : User) (r : Read (Option Range)) (status : ℕ) (out : CallWindow) → from ≡ walk_index w → before.kept.value ≡ Some u → after.kept.value ≡ Some v → common_of v ≡ common_of u → v.chair ≡ u.chair → v.receipts ≡ u.receipts
    → StepsFrom (user_tree u) u.walker from r v.walker → status ≡ answer_status (Ok r) → out ≡ window_of (Ok r) → w' ≡ went_on r.value → SharedStepped w w' before after status out
stepped_open w w' from before after u v r status out place was is common chair kept said number shown behind =
    let stepped = subst (λ (i : Option ℕ). StepsFrom (user_tree u) u.walker i r v.walker) place said in
    on_open before after u v status _ _ was is common (r, stepped, record { common = common; chair = chair; receipts = kept }, number, shown, behind)

pub stepped_closed : (w w' : OutWalk) (before after : UserHandle) (status : ℕ) (out : CallWindow) → before.kept.value ≡ None → after ≡ before → status ≡ refusal after.state → out ≡ no_window → w' ≡ w → SharedStepped w w' before after status out
stepped_closed w w' before after status out was is number shown same = on_closed before after status _ _ was is number (shown, same)

pub paused_open : (before after : UserHandle) (u v : User) (status : ℕ) → before.kept.value ≡ Some u → after.kept.value ≡ Some v → common_of v ≡ common_of u → v.chair ≡ u.chair → v.receipts ≡ u.receipts
    → known_to v ≡ rested u → IsOnNoWalk v.walker → Takes 1 u.walker.pass v.walker.pass → status ≡ 0 → SharedPaused before after status
paused_open before after u v status was is common chair kept known rests takes number = on_open before after u v status _ _ was is common (known, rests, takes, record { common = common; chair = chair; receipts = kept }, number)

pub paused_closed : (before after : UserHandle) (status : ℕ) → before.kept.value ≡ None → after ≡ before → status ≡ refusal after.state → SharedPaused before after status
paused_closed before after status was is number = on_closed before after status _ _ was is number tt

learned : (calls : ℕ) (before after : UserHandle) (u v : User) (r : Read ℕ) (status : ℕ) → before.kept.value ≡ Some u → after.kept.value ≡ Some v → common_of v ≡ common_of u → v.chair ≡ u.chair → v.receipts ≡ u.receipts
    → IsEntry (user_tree u) (paused u) 0 r (known_to v) → IsOnNoWalk v.walker → Took 95 u.walker v.walker.pass → status ≡ (if nat_le calls r.lo then 0 else 115) → SharedLearned calls before after status
learned calls before after u v r status was is common chair kept said rests took number = on_open before after u v status _ _ was is common (r, said, rests, took, record { common = common; chair = chair; receipts = kept }, number)

pub learned_yes : (calls : ℕ) (before after : UserHandle) (u v : User) (r : Read ℕ) (status : ℕ) → before.kept.value ≡ Some u → after.kept.value ≡ Some v → common_of v ≡ common_of u → v.chair ≡ u.chair → v.receipts ≡ u.receipts
    → IsEntry (user_tree u) (paused u) 0 r (known_to v) → IsOnNoWalk v.walker → Took 95 u.walker v.walker.pass → calls ≤ r.lo → status ≡ 0 → SharedLearned calls before after status
learned_yes calls before after u v r status was is common chair kept said rests took many number = learned calls before after u v r status was is common chair kept said rests took (number ∙ sym (ap (λ (b : Bool). if b then 0 else 115) (le-leb calls r.lo many)))

pub learned_no : (calls : ℕ) (before after : UserHandle) (u v : User) (r : Read ℕ) (status : ℕ) → before.kept.value ≡ Some u → after.kept.value ≡ Some v → common_of v ≡ common_of u → v.chair ≡ u.chair → v.receipts ≡ u.receipts
    → IsEntry (user_tree u) (paused u) 0 r (known_to v) → IsOnNoWalk v.walker → Took 95 u.walker v.walker.pass → r.lo < calls → status ≡ 115 → SharedLearned calls before after status
learned_no calls before after u v r status was is common chair kept said rests took few number = learned calls before after u v r status was is common chair kept said rests took (number ∙ sym (ap (λ (b : Bool). if b then 0 else 115) (lt-leb calls r.lo few)))

pub learned_closed : (calls : ℕ) (before after : UserHandle) (status : ℕ) → before.kept.value ≡ None → after ≡ before → status ≡ refusal after.state → SharedLearned calls before after status
learned_closed calls before after status was is number = on_closed before after status _ _ was is number tt

pub has_synced : (u v : User) (synced : Result ℕ Busy) (status calls : ℕ) → IsSynced (user_tree u) (paused u) synced (known_to v) → WentOnce u.walker v.walker → v.chair ≡ u.chair → v.receipts ≡ when_synced synced u.receipts → status ≡ synced_status synced → calls ≡ calls_in_c synced
    → HasSynced status calls u v
has_synced u v synced status calls said went chair kept number told = (synced, said, went, chair, kept, number, told)

pub synced_open : (before after : UserHandle) (u v : User) (status calls : ℕ) → before.kept.value ≡ Some u → after.kept.value ≡ Some v → common_of v ≡ common_of u → HasSynced status calls u v → SharedSynced before after status calls
synced_open before after u v status calls was is tree has = on_open before after u v status _ _ was is tree has

pub synced_closed : (before after : UserHandle) (status calls : ℕ) → before.kept.value ≡ None → after ≡ before → status ≡ refusal after.state → calls ≡ 0 → SharedSynced before after status calls
synced_closed before after status calls was is number none = on_closed before after status _ _ was is number none

-- ---- shapes

pub bad_shape : (shape : Shape) (field : Field) (status : ℕ) → first_bad shape ≡ Some field → status ≡ field_status field → IsBadShape shape status
bad_shape shape field status bad number = (field, bad, number)

-- ---- opening

pub new_open : (code rows passes calls : ℕ) (after : Option User) (status : ℕ) (u : User) (shape : Shape) → after ≡ Some u → status ≡ 0 → IsShape code rows passes calls shape → IsFirstUser shape [] u → SharedNew code rows passes calls after status
new_open code rows passes calls after status u shape is done of first = rw is (done, shape, of, first)

pub new_no_kind : (code rows passes calls : ℕ) (after : Option User) (status : ℕ) → after ≡ None → status ≡ 22 → ((kind : Kind) → kind_code kind ≢ code) → SharedNew code rows passes calls after status
new_no_kind code rows passes calls after status is number none = rw is (inl (number, none))

pub new_bad : (code rows passes calls : ℕ) (after : Option User) (status : ℕ) (shape : Shape) → after ≡ None → IsMeant code rows passes calls shape → IsBadShape shape status → SharedNew code rows passes calls after status
new_bad code rows passes calls after status shape is meant bad = rw is (inr (inl (shape, meant, bad)))

pub new_short : (code rows passes calls : ℕ) (after : Option User) (status : ℕ) (shape : Shape) → after ≡ None → status ≡ 12 → IsShape code rows passes calls shape → SharedNew code rows passes calls after status
new_short code rows passes calls after status shape is number of = rw is (inr (inr (number, shape, of)))

pub opened_busy : (code rows passes calls : ℕ) (before after : UserHandle) (status number : ℕ) → unopened before.state ≡ Some number → after ≡ before → status ≡ number → SharedOpened code rows passes calls before after status
opened_busy code rows passes calls before after status number taken same told = subst (λ (o : Option ℕ). IfClosed o before after status (SharedNew code rows passes calls after.kept.value status)) (sym taken) (same, told)

pub left_none : (h : UserHandle) → h.state ≡ 0 → IsLeftClosed h
left_none h shut = record { closed = λ none. shut }

pub left_some : (h : UserHandle) (u : User) → h.kept.value ≡ Some u → IsLeftClosed h
left_some h u is = record { closed = λ none. absurd (cc) }

pub ruleset new_handle = (new_open, new_bad, new_short, new_no_kind, bad_shape, left_none, left_some)

-- what was made is put into a closed handle
left_as : (made after : UserHandle) → after.kept.value ≡ made.kept.value → after.state ≡ made.state → IsLeftClosed made → IsLeftClosed after
left_as made after kept state left = record { closed = λ none. state ∙ left.closed (sym kept ∙ none) }

pub opened_new : (code rows passes calls : ℕ) (before made after : UserHandle) (status : ℕ) → before.state ≡ 0 → after.kept.value ≡ made.kept.value → after.state ≡ made.state → IsLeftClosed made
    → SharedNew code rows passes calls made.kept.value status → SharedOpened code rows passes calls before after status
opened_new code rows passes calls before made after status closed kept state left new =
    subst (λ (o : Option ℕ). IfClosed o before after status (SharedNew code rows passes calls after.kept.value status)) (sym (ap unopened closed))
    (left_as made after kept state left, subst (λ (o : Option User). SharedNew code rows passes calls o status) (sym kept) new)

-- ---- a second handle

-- what C keeps of a user was open and stays open
pub kept_on : (o o' : Option User) (none : Type 0) (says : User → User → Type 0) (u v : User) → o ≡ Some u → o' ≡ Some v → says u v → SharedKept o o' none says
kept_on o o' none says u v was is said = subst (λ (x : Option User × Option User). SharedKept x.0 x.1 none says) (λ i. (sym was i, sym is i)) said

-- and where it was closed
pub kept_off : (o o' : Option User) (none : Type 0) (says : User → User → Type 0) → o ≡ None → none → SharedKept o o' none says
kept_off o o' none says was stays = subst (λ (x : Option User). SharedKept x o' none says) (sym was) stays

-- ---- sharing

pub has_shared : (u v w : User) (given : Given Purse Tree) → IsOfPurse (common_of u) (cuts u) w given → cuts v ≡ cuts u + 2 → v.receipts ≡ when_given given u.receipts → HasShared u v w
has_shared u v w given of chair kept = (given, of, chair, kept)

pub is_unchanged : (u v : User) (status : ℕ) (why : Unchanged) → IsWhy (common_of u) (cuts u) why → cuts v ≡ cuts u + 1 → v.receipts ≡ when_unchanged why u.receipts → status ≡ unchanged_status why → IsUnchanged u v status
is_unchanged u v status why told chair kept number = (why, told, chair, kept, number)

module _ (before after other other' : UserHandle) (status : ℕ) where
  with_kept : (u v : User) → before.kept.value ≡ Some u → after.kept.value ≡ Some v → OpensOther (unopened other.state) u v other other' status → SharedWith before after other other' status
  with_kept u v was is said = kept_on before.kept.value after.kept.value (StaysAs before after status × (other' ≡ other)) (λ a b. OpensOther (unopened other.state) a b other other' status) u v was is said

  pub with_closed : before.kept.value ≡ None → after ≡ before → other' ≡ other → status ≡ refusal after.state → SharedWith before after other other' status
  with_closed was is same number = kept_off before.kept.value after.kept.value (StaysAs before after status × (other' ≡ other)) (λ a b. OpensOther (unopened other.state) a b other other' status) was ((is, number), same)

  pub with_busy : (u : User) (number : ℕ) → before.kept.value ≡ Some u → after.kept.value ≡ Some u → unopened other.state ≡ Some number → other' ≡ other → status ≡ number → SharedWith before after other other' status
  with_busy u number was is taken same told = with_kept u u was is (subst (λ (o : Option ℕ). OpensOther o u u other other' status) (sym taken) (refl, same, told))

  module _ (u v : User) (was : before.kept.value ≡ Some u) (is : after.kept.value ≡ Some v) (closed : other.state ≡ 0) where
    opens : IsLeftClosed other' → OpensBeside u v other'.kept.value status → SharedWith before after other other' status
    opens left said = with_kept u v was is (subst (λ (o : Option ℕ). OpensOther o u v other other' status) (sym (ap unopened closed)) (left, said))

    pub with_made : (w : User) → other'.kept.value ≡ Some w → status ≡ 0 → common_of v ≡ common_of u → v.walker ≡ u.walker → common_of w ≡ common_of u → HasShared u v w → SharedWith before after other other' status
    with_made w made number common walker of shared = opens (left_some other' w made) (subst (λ (o : Option User). OpensBeside u v o status) (sym made) (number, record { common = common; walker = walker }, of, shared))

    pub with_none : other'.kept.value ≡ None → other'.state ≡ 0 → common_of v ≡ common_of u → v.walker ≡ u.walker → IsUnchanged u v status → SharedWith before after other other' status
    with_none still shut common walker unchanged = opens (left_none other' shut) (subst (λ (o : Option User). OpensBeside u v o status) (sym still) (record { common = common; walker = walker }, unchanged))

pub ruleset with_other = (with_closed, with_busy, with_made, with_none)

-- ---- leaving

module _ (before after : UserHandle) (status : ℕ) where
  left_by : (o o' : Option User) → before.kept.value ≡ o → after.kept.value ≡ o' → LeftBy o o' (StaysAs before after status) after.state status → SharedLeft before after status
  left_by o o' was is said = subst (λ (x : Option User × Option User). LeftBy x.0 x.1 (StaysAs before after status) after.state status) (λ i. (sym was i, sym is i)) said

  pub left_closed : before.kept.value ≡ None → after ≡ before → status ≡ refusal after.state → SharedLeft before after status
  left_closed was is number = subst (λ (x : Option User). LeftBy x after.kept.value (StaysAs before after status) after.state status) (sym was) (is, number)

  pub left_done : (u : User) (left : Left) → before.kept.value ≡ Some u → after.kept.value ≡ None → after.state ≡ 0 → status ≡ 0 → HasLeft (common_of u) (cuts u + 1) (rested u) left → SharedLeft before after status
  left_done u left was is closed number has = left_by (Some u) None was is (number, closed, left, has)

  pub left_open : (u m v : User) (why : Unchanged) → before.kept.value ≡ Some u → after.kept.value ≡ Some v → common_of v ≡ common_of u → v.walker ≡ m.walker → known_to m ≡ paused u → Took 0 u.walker m.walker.pass → IsWhy (common_of u) (cuts u) why → WantsNoPlace why
      → cuts v ≡ cuts u + 1 → v.receipts ≡ when_unchanged why u.receipts → status ≡ unchanged_status why → SharedLeft before after status
  left_open u m v why was is common same known took told place chair kept number =
      left_by (Some u) (Some v) was is (common, ap knows same ∙ known, took_still 0 u.walker m.walker v.walker same took, (why, told, place, chair, kept, number))

-- ---- closing

pub shut_none : (before after : UserHandle) → before.kept.value ≡ None → after ≡ before → SharedClosed before after
shut_none before after was same = subst (λ (x : Option User). IsShut x before after) (sym was) same

pub shut_open : (before after : UserHandle) (u : User) → before.kept.value ≡ Some u → after.kept.value ≡ None → after.state ≡ 0 → SharedClosed before after
shut_open before after u was none closed = subst (λ (x : Option User). IsShut x before after) (sym was) (none, closed)

-- ---- settling

pub has_settled : (u v : User) (settled : SettleResult) (status calls passes : ℕ) → IsSettledUser (common_of u) (cuts u) (paused u) settled (known_to v) → WentToSettle settled u.walker v.walker → cuts v ≡ cuts u + 1 → v.receipts ≡ when_settled settled u.receipts
    → status ≡ settled_status settled → calls ≡ (settled_told settled).0 → passes ≡ (settled_told settled).1 → HasSettled status calls passes u v
has_settled u v settled status calls passes said went chair kept number told met = (settled, said, went, chair, kept, number, told, met)

pub settled_open : (before after : UserHandle) (u v : User) (status calls passes : ℕ) → before.kept.value ≡ Some u → after.kept.value ≡ Some v → common_of v ≡ common_of u → HasSettled status calls passes u v → SharedSettled before after status calls passes
settled_open before after u v status calls passes was is tree has = on_open before after u v status _ _ was is tree has

pub settled_closed : (before after : UserHandle) (status calls passes : ℕ) → before.kept.value ≡ None → after ≡ before → status ≡ refusal after.state → calls ≡ 0 → passes ≡ 0 → SharedSettled before after status calls passes
settled_closed before after status calls passes was is number none zero = on_closed before after status _ _ was is number (none, zero)
