-- What a draw, and a number that is given back, make of the tree with one pass: no row is held there, and so none is lacked.
use Rattle.mt_commands.proofs.Prelude.{◌≡◌, ℕ, zero, suc, ◌+◌, ◌^◌, ◌<◌, ◌≤◌, ◌==◌, Bool, true, false, nat_lt, List, [], ◌∷◌, Option, None, Result, Ok, Err, IfOk, IfErr, length, inl, inr, refl, sym, ap, ◌∙◌, arith, length-append, AllByRecursion, if◌then◌else◌, le-ltb, eqb-suc-zero, Erase, Kind, Reply, acted, reserved, History, IsAnswered, Record, limits_after, map_after, Wrote, greatest_of, most_rows, was_acted, Found, IsDrawn, calls_of, drawn, is_bad_draw, is_twofold, Draws, Drawn, Number, Busy, Invalid, Worn, none_lacked, none_short, Done, Tree, allocation_of, is_alone, HasCalled, IsWorn, NamesPass, limit_of, map_seen, opened, passes_of, has_called, map_next, none_held, seen_next, was_legal, HasOnePass, found_in, turns_at, Tally, draws_behind, number_due, map_behind, map_without, tallied, turn, most_calls, AreMade}
use Rattle.mt_base.specs.declared.kinds.Kind.TheVariants as kinds
use Rattle.mt_base.specs.Passes as known
use Rattle.mt_ids.specs.declared.ids.Drawn.TheVariants.{NoNodes as Lacks}
use Rattle.mt_base.specs.declared.outcomes.Worn as worn

not_zero : (n : ℕ) → 1 ≤ n → (n == 0) ≡ false
not_zero zero low = absurd (omega arith)
not_zero (suc n) low = eqb-suc-zero n

module _ (t : Tree) (p q : known.Pass) (only : HasOnePass t) (shut : p.standing ≡ None) (few : length (map_seen t p) ≤ 100001) where
  kind_is : (opened t).kind ≡ kinds.Alloc
  kind_is = ap (λ (h : History). h.kind) only.tree

  rows_is : (opened t).rows ≡ most_rows
  rows_is = ap (λ (h : History). h.rows) only.tree

  is_lone : is_alone (passes_of t) p.standing ≡ true
  is_lone = (λ k. is_alone (only.passes k) (shut k))

  -- ---- a draw

  -- what it leaves where it gave this, or nothing
  pub record Gives (d d' : Draws) (entry : ℕ) (o : Option Found) : Type 0 where
    pub found : o ≡ drawn kinds.Alloc (map_seen t p) d
    pub map : map_seen t q ≡ map_behind entry (map_seen t p) o
    pub draws : d' ≡ draws_behind d o
    pub calls : length q.seen ≤ length p.seen + 2

  good : (hi entry : ℕ) → hi < 2 ^ 64 → 1 ≤ entry → reserved entry ≡ false → is_bad_draw kinds.Alloc hi entry ≡ false
  good hi entry high some fair =
      let one : nat_lt (greatest_of kinds.Alloc) hi ≡ false = le-ltb (greatest_of kinds.Alloc) hi (omega arith) in
      let two : (entry == 0) ≡ false = not_zero entry some in
      rw (one, fair, two) refl

  most_two : (d : Draws) (entry : ℕ) → calls_of (allocation_of t p) d entry ≤ 2
  most_two d entry = by_fold (is_twofold (opened t).kind (map_seen t p) d entry)
    where
      by_fold : (b : Bool) → (if b then 2 else 1) ≤ 2
      by_fold true = omega arith
      by_fold false = omega arith

  gives : (d d' : Draws) (entry : ℕ) (reply : Reply) (o : Option Found) → AreMade d (allocation_of t p) entry reply (allocation_of t q) → drawn (opened t).kind (map_seen t p) d ≡ o → map_seen t q ≡ map_behind entry (map_seen t p) o → d' ≡ draws_behind d o → Gives d d' entry o
  gives d d' entry reply o all found map draws =
      let made = all.calls in
      record {
        found = sym found ∙ ap (λ (k : Kind). drawn k (map_seen t p) d) kind_is;
        map = map;
        draws = draws;
        calls = omega (arith, made, most_two d entry);
      }

  pub drawn_is : (d d' : Draws) (entry : ℕ) (answer : Drawn) → length p.seen + 2 ≤ most_calls → 1 ≤ entry → reserved entry ≡ false → d.hi < 2 ^ 64
      → IsDrawn d (allocation_of t p) entry answer d' (allocation_of t q) → Gives d d' entry (found_in answer)
  drawn_is d d' entry (Number at wrapped) room some fair high is = gives d d' entry _ _ is.0 is.2 is.3 is.4
  drawn_is d d' entry Busy room some fair high is = gives d d' entry _ _ is.0 is.2 is.3 is.4
  drawn_is d d' entry Invalid room some fair high is =
      let fine = ap (λ (k : Kind). is_bad_draw k d.hi entry) kind_is ∙ good d.hi entry high some fair in
      absurd (let both : true ≡ false = sym is.1 ∙ fine in cc)
  drawn_is d d' entry (Lacks shortage) room some fair high is = absurd (none_lacked d (allocation_of t p) entry shortage (allocation_of t q) rows_is few is_lone is.0)
  drawn_is d d' entry (Worn calls) room some fair high is =
      let lacks = is.0 in
      absurd (omega (arith, lacks.few, most_two d entry, only.calls))

  -- ---- a number given back

  pub record Takes (number : ℕ) : Type 0 where
    pub map : map_seen t q ≡ (acted kinds.Alloc (map_seen t p) (Erase number)).0
    pub called : HasCalled p q
    pub calls : length q.seen ≤ length p.seen + 1

  taken : (number call : ℕ) (reply : Reply) → Wrote (opened t) p call (Erase number) reply q → call ≡ length p.seen + 1 → AllByRecursion (λ r. r.pass < passes_of t) q.seen → NamesPass t reply → Takes number
  taken number call reply wrote next callers named =
      let made : Record = record { pass = p.number; call = Erase number; reply = reply } in
      let after : map_seen t q ≡ map_after (opened t).kind (map_seen t p) made = map_next t p q (Erase number) call reply wrote next in
      let is : map_after (opened t).kind (map_seen t p) made ≡ (acted (opened t).kind (map_seen t p) (Erase number)).0 = by_answer (was_legal t p q (Erase number) call reply wrote next) in
      record {
        map = after ∙ (is ∙ ap (λ (k : Kind). (acted k (map_seen t p) (Erase number)).0) kind_is);
        called = has_called t p q (Erase number) call reply wrote next;
        calls = omega (arith, ap (λ (rs : List Record). length rs) (seen_next t p q (Erase number) call reply wrote next), length-append p.seen (made ∷ []));
      }
    where
      by_answer : IsAnswered (opened t).kind (limits_after (opened t) (length p.seen)) (map_seen t p) (record { pass = p.number; call = Erase number; reply = reply })
          → map_after (opened t).kind (map_seen t p) (record { pass = p.number; call = Erase number; reply = reply }) ≡ (acted (opened t).kind (map_seen t p) (Erase number)).0
      by_answer (inl answered) =
          (was_acted (opened t).kind (map_seen t p) (record { pass = p.number; call = Erase number; reply = reply }) (acted (opened t).kind (map_seen t p) (Erase number)).0
          (λ k. ((acted (opened t).kind (map_seen t p) (Erase number)).0, sym answered k))).moved
      by_answer (inr refused) =
          let short = refused.short in
          absurd (none_short (limits_after (opened t) (length p.seen)) (map_seen t p) refused.shortage rows_is few
          (none_held t p q (Erase number) call reply wrote next callers named is_lone refused.shortage refused.told short.holder) short)

  pub given_back : (number : ℕ) (Rest : Type 0) (done : Result Done worn.Worn) → length p.seen + 1 ≤ most_calls
      → IfOk done (λ d. Wrote (opened t) p d.call (Erase number) d.reply q × (d.call ≤ limit_of t))
      → IfOk done (λ d. d.call ≡ length p.seen + 1)
      → IfOk done (λ d. AllByRecursion (λ r. r.pass < passes_of t) q.seen)
      → IfOk done (λ d. NamesPass t d.reply)
      → IfErr done (λ w. IsWorn t p w q × Rest)
      → IfErr done (λ w. q.seen ≡ p.seen)
      → Takes number
  given_back number Rest (Ok d) room wrote next callers named all still = taken number d.call d.reply wrote.0 next callers named
  given_back number Rest (Err w) room wrote next callers named lost still =
      let all = lost.0.all in
      let same = ap (λ (rs : List Record). length rs) still in
      absurd (omega (arith, all, same, room, only.calls))

-- ---- a turn

pub turned : (t : Tree) (p q : known.Pass) (d d' : Draws) (tally tally' : Tally) (drops n : ℕ) (found : Option Found) (o : Option ℕ) → found ≡ drawn kinds.Alloc (map_seen t p) d → d' ≡ draws_behind d found
    → tally' ≡ tallied tally found → o ≡ number_due drops tally'.numbers → map_seen t q ≡ map_without (map_behind (4096 + n) (map_seen t p) found) o → turns_at t q d' tally' ≡ turn drops (turns_at t p d tally) n
turned t p q d d' tally tally' drops n found o is draws tallies owed map_is =
    let due_is : o ≡ number_due drops (tallied tally found).numbers = owed ∙ ap (λ (x : Tally). number_due drops x.numbers) tallies in
    let here : turns_at t q d' tally' ≡ record { map = map_without (map_behind (4096 + n) (map_seen t p) found) (number_due drops (tallied tally found).numbers); draws = draws_behind d found; tally = tallied tally found } =
    (λ k. record { map = (map_is ∙ ap (map_without (map_behind (4096 + n) (map_seen t p) found)) due_is) k; draws = draws k; tally = tallies k }) in
    here ∙ ap (λ (f : Option Found). record { map = map_without (map_behind (4096 + n) (map_seen t p) f) (number_due drops (tallied tally f).numbers); draws = draws_behind d f; tally = tallied tally f }) is
