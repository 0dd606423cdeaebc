-- Calls that keep the reserve of a tree, and how the number of its ranges is kept under its lock.
use Rattle.mt_tree.proofs.Prelude.{◌≡◌, ◌≤◌, ◌≢◌, ◌⊎◌, inl, inr, cases_lt, ℕ, true, false, List, Option, Result, Ok, Err, IfSome, length, refl, sym, ap, ◌∙◌, subst, arith, Call, Range, Reply, Record, acted, is_refusal, saw_wrote, tree_if_lawful, map_by, Parts, Rooted, Wrote, limits_after, records_of, Done, Worn, Look, Tools, Tree, Acts, Behind, IsAtRest, IsWorn, LacksRows, LeavesRoom, NoNodes, Wants, Shape, Shortage, LiesBehind, LookedBehind, NamesPass, Pass, WasAnsweredBy, WasPrepared, IsLeastBy, after_show, behind_lock, limit_of, opened, IsCountBehind, IsPlain, acted_plainly, IsMap, tree_map, IsLookAt, Scan, BreaksReserve, HasReserve, IsCountAfter, IsReserveVerdict, most_after, range_count, rows_for, IsDecided, ReserveVerdict}
use Rattle.mt_base.specs.Passes as known
use Rattle.mt_tree.specs.Kept.{MadeKept, WasKept}
use Rattle.mt_tree.specs.declared.kept.Kept.{Kept}
use Rattle.mt_tree.specs.declared.kept.Kept.TheVariants as kept
use Rattle.mt_tree.proofs.AtWork.{at_rest}
use Rattle.mt_tree.proofs.Overwriting.{saw_on}
use Rattle.mt_tree.proofs.RangeCounts.{few_acted, made_counts}
use Rattle.mt_tree.proofs.Reserving.{kept_through, never_short}

-- ---- words that were only read

pub counted_as : (ranges : Option ℕ) (b b' : Behind) → b'.parts.sheet.tree ≡ b.parts.sheet.tree → IsCountBehind ranges b → IsCountBehind ranges b'
counted_as ranges b b' same known = subst (λ (t : Rooted). IfSome ranges (λ n. n ≡ length (map_by t))) (sym same) known

pub counted_looked : (t : Tree) (b b' : Behind) (p q : Pass) (ranges : Option ℕ) → LookedBehind t b b' p q → IsCountBehind ranges b → IsCountBehind ranges b'
counted_looked t b b' p q ranges looked known = counted_as ranges b b' (ap (λ (x : Parts). x.sheet.tree) looked.state.parts) known

pub counted_prepared : (t : Tree) (b b' : Behind) (ranges : Option ℕ) → WasPrepared t b b' → IsCountBehind ranges b → IsCountBehind ranges b'
counted_prepared t b b' ranges prepared known = counted_as ranges b b' (λ i. (prepared.sheet i).tree) known

pub counted_least : (t : Tree) (calls : List Record) (b b' : Behind) (least : ℕ) (ranges : Option ℕ) → IsLeastBy t calls b b' least → IsCountBehind ranges b → IsCountBehind ranges b'
counted_least t calls b b' least ranges is known = counted_prepared t b b' ranges is.prepared known

-- ---- a call that was made

map_at_rest : (tools : Option Tools) → IsAtRest tools → IsMap (behind_lock tools).parts.kind (map_by (behind_lock tools).parts.sheet.tree)
map_at_rest tools rest =
    let e = (behind_lock tools).parts in
    tree_map e.sheet.tree e.kind (tree_if_lawful e.sheet.tree e.kind (at_rest tools rest).1.idle.state.kept.lawful)

pub counted_after : (tools : Option Tools) (b' : Behind) (call : Call) (reply : Reply) (given before after : Option ℕ) → IsAtRest tools → (is_refusal reply ≡ true → b'.parts.sheet.tree ≡ (behind_lock tools).parts.sheet.tree)
    → (is_refusal reply ≡ false → Acts (behind_lock tools) b' call reply) → IfSome given (λ n. n ≡ length (acted (behind_lock tools).parts.kind (map_by (behind_lock tools).parts.sheet.tree) call).0)
    → IsCountBehind before (behind_lock tools) → IsCountAfter given before call reply after → IsCountBehind after b'
counted_after tools b' call reply given before after rest kept acts told known count =
    let b = behind_lock tools in
    made_counts b.parts.kind (map_by b.parts.sheet.tree) (map_by b'.parts.sheet.tree) call reply given before after (map_at_rest tools rest) (λ is. ap map_by (kept is)) acts told known count

map_behind : (t : Tree) (calls : List Record) (b : Behind) → LiesBehind t calls b → IsMap b.parts.kind (map_by b.parts.sheet.tree)
map_behind t calls b lies = tree_map b.parts.sheet.tree b.parts.kind (tree_if_lawful b.parts.sheet.tree b.parts.kind lies.kept.idle.state.kept.lawful)

-- by what the call says of what the lock protected
pub counted_answered : (t : Tree) (q : known.Pass) (b b' : Behind) (call : Call) (d : Done) (given before after : Option ℕ) → WasAnsweredBy t q b b' call d → (is_refusal d.reply ≡ true → b'.parts.sheet.tree ≡ b.parts.sheet.tree)
    → (is_refusal d.reply ≡ false → Acts b b' call d.reply) → IfSome given (λ n. n ≡ length (acted b.parts.kind (map_by b.parts.sheet.tree) call).0) → IsCountBehind before b → IsCountAfter given before call d.reply after → IsCountBehind after b'
counted_answered t q b b' call d given before after was kept acts told known count =
    made_counts b.parts.kind (map_by b.parts.sheet.tree) (map_by b'.parts.sheet.tree) call d.reply given before after (map_behind t _ b was.before) (λ is. ap map_by (kept is)) acts told known count

-- ---- what a verdict knows

pub verdict_then : (t : Tree) (b b' : Behind) (p q : Pass) (call : Call) (v : ReserveVerdict) → LookedBehind t b b' p q → IsReserveVerdict b.parts call v → IsReserveVerdict b'.parts call v
verdict_then t b b' p q call v looked is = subst (λ (e : Parts). IsReserveVerdict e call v) (sym looked.state.parts) is

-- ---- what came of it

module _ (t : Tree) (p m q : known.Pass) (b b' : Behind) (call : Call) (look : Look) (saw : known.Saw (opened t) p m) (knew : m.seen ≡ records_of b.pen.history) (lies : LiesBehind t (records_of b.pen.history) b)
    (took : look.took.value ≡ b) (left : look.left.value ≡ b') where
  at_look : q.seen ≡ records_of b.pen.history → IsLookAt t q look
  at_look seen = subst (λ (x : List Record × Behind). LiesBehind t x.0 x.1) (λ k. (sym seen k, sym took k)) lies

  breaks_there : BreaksReserve b.parts call → BreaksReserve look.took.value.parts call
  breaks_there = subst (λ (x : Behind). BreaksReserve x.parts call) (sym took)

  keeps_there : (BreaksReserve b.parts call → ⊥) → BreaksReserve look.took.value.parts call → ⊥
  keeps_there not breaks = not (subst (λ (x : Behind). BreaksReserve x.parts call) took breaks)

  pub was_kept : (made : Result Kept Worn) → MadeKept t m b b' call made q → WasKept t p call look made q
  was_kept (Ok kept.Broken) is = (
    subst (λ (x : known.Pass). known.Saw (opened t) p x) (sym is.0) saw,
    at_look (ap (λ (x : known.Pass). x.seen) is.0 ∙ knew),
    breaks_there is.2,
  )
  was_kept (Ok (kept.Made d)) is = (
    record { done = (saw_wrote (opened t) p m d.call call d.reply q saw is.0.done.0, is.0.done.1); named = is.0.named; answered = is.0.answered; worn = tt },
    subst (λ (x : Behind × Behind). WasAnsweredBy t q x.0 x.1 call d) (λ k. (sym took k, sym left k)) is.1,
    keeps_there is.2,
  )
  was_kept (Err w) is = (
    record { calls = is.0.calls; all = is.0.all; saw = saw_on (opened t) p m q saw is.0.saw },
    at_look is.1,
    keeps_there is.2,
  )

pub counted_found : (b b' : Behind) (call : Call) (v : ReserveVerdict) → b'.parts ≡ b.parts → IsReserveVerdict b.parts call v → IsCountBehind v.before b'
counted_found b b' call v same is = counted_as v.before b b' (ap (λ (x : Parts). x.sheet.tree) same) is.before

pub broken_kept : (t : Tree) (p : known.Pass) (b : Behind) (call : Call) (v : ReserveVerdict) → v.breaks ≡ true → IsReserveVerdict b.parts call v → MadeKept t p b b call (Ok kept.Broken) p
broken_kept t p b call v breaks is = (refl, refl, is.breaks.0 breaks)

-- a call under the lock that was made, or that the tree has no place for
module _ (t : Tree) (p q : known.Pass) (b b' : Behind) (call : Call) where
  pub made_kept : (d : Done) → (BreaksReserve b.parts call → ⊥) → Wrote (opened t) p d.call call d.reply q × (d.call ≤ limit_of t) → NamesPass t d.reply → WasAnsweredBy t q b b' call d → MadeKept t p b b' call (Ok (kept.Made d)) q
  made_kept d not done named answered = (record { done = done; named = named; answered = (b, b', answered); worn = tt }, answered, not)

  pub worn_kept : (w : Worn) → (BreaksReserve b.parts call → ⊥) → IsWorn t p w q × (b' ≡ after_show b) → q.seen ≡ records_of b'.pen.history → MadeKept t p b b' call (Err w) q
  worn_kept w not worn seen = (worn.0, seen ∙ ap (λ (x : Behind). records_of x.pen.history) worn.1, not)

-- ---- calls of a tree that has its reserve

rows_behind : (t : Tree) (calls : List Record) (b : Behind) → LiesBehind t calls b → b.parts.sheet.tree.rows ≡ (opened t).rows
rows_behind t calls b lies = lies.kept.of.rows ∙ ap (λ (s : Shape). s.rows) lies.shape

-- a call that acts tells no shortage
acts_plainly : (b b' : Behind) (call : Call) (s : Shortage) → Acts b b' call (NoNodes s) → ⊥
acts_plainly b b' call s acts = subst IsPlain (ap (λ (x : List Range × Reply). x.1) acts) (acted_plainly b.parts.kind (map_by b.parts.sheet.tree) call)

module _ (t : Tree) (q : known.Pass) (b b' : Behind) (call : Call) (d : Done) (was : WasAnsweredBy t q b b' call d) (has : HasReserve b.parts) where
  -- it is refused for lack of nodes only where some are held
  lacks_held : (scan : Scan) (s : Shortage) → d.reply ≡ NoNodes s → LacksRows t b b' scan call d.reply → s.held ≢ 0
  lacks_held scan s told lacks =
      let both : NoNodes lacks.refused.shortage ≡ NoNodes s = sym lacks.refused.told ∙ told in
      let same : lacks.refused.shortage ≡ s = cc in
      let rows = rows_behind t _ b was.before in
      subst (λ (x : Shortage). x.held ≢ 0) same
      (never_short (limits_after (opened t) (length b.pen.history)) (map_by b.parts.sheet.tree) lacks.refused.shortage (subst (λ (n : ℕ). rows_for (range_count b.parts) ≤ n) rows has) lacks.refused.short)

  acts_not : (s : Shortage) → d.reply ≡ NoNodes s → Acts b b' call d.reply → ⊥
  acts_not s told acts = acts_plainly b b' call s (subst (Acts b b' call) told acts)

  pub lacks_only_held : (s : Shortage) → d.reply ≡ NoNodes s → s.held ≢ 0
  lacks_only_held s told none =
      acts_not s told (was.answer.calm (λ wants.
      let decided = was.answer.wants wants in
      lacks_held decided.scan s told (decided.lacks (λ room. acts_not s told (decided.room room))) none)).0

  few_acts : Acts b b' call d.reply → range_count b'.parts ≤ most_after b.parts call
  few_acts acts =
      let few = few_acted b.parts.kind (map_by b.parts.sheet.tree) (map_behind t _ b was.before) call in
      let all : length (acted b.parts.kind (map_by b.parts.sheet.tree) call).0 ≡ range_count b'.parts = ap (λ (x : List Range × Reply). length x.0) acts in
      omega (arith, few, all)

  same_kept : b'.parts.sheet.tree ≡ b.parts.sheet.tree → range_count b'.parts ≤ range_count b.parts
  same_kept kept = let all = ap (λ (x : Rooted). length (map_by x)) kept in omega (arith, all)

  module _ (not : BreaksReserve b.parts call → ⊥) where
    still : (range_count b'.parts ≤ most_after b.parts call) ⊎ (range_count b'.parts ≤ range_count b.parts) → HasReserve b'.parts
    still few =
        let kept = kept_through (range_count b.parts) (most_after b.parts call) (range_count b'.parts) b.parts.sheet.tree.rows has few (λ both. not (record { adds = both.0; few = both.1 })) in
        let rows = rows_behind t _ b was.before in
        let rows' = rows_behind t _ b' was.after in
        omega (arith, kept, rows, rows')

    keeps_wanting : (HasReserve b'.parts → ⊥) → IsDecided t b b' call d.reply → ⊥
    keeps_wanting lost decided =
        let no_room : LeavesRoom decided.scan b → ⊥ = λ room. lost (still (inl (few_acts (decided.room room)))) in
        let lacks = decided.lacks no_room in
        lost (still (inr (same_kept lacks.kept)))

    keeps : (HasReserve b'.parts → ⊥) → ⊥
    keeps lost =
        let calm : Wants b.parts.kind (map_by b.parts.sheet.tree) call → ⊥ = λ wants. keeps_wanting lost (was.answer.wants wants) in
        let acts = was.answer.calm calm in
        lost (still (inl (few_acts acts.0)))

    pub reserve_lasts : HasReserve b'.parts
    reserve_lasts = elim (cases_lt b'.parts.sheet.tree.rows (rows_for (range_count b'.parts))) [
      | inr enough ↦ enough
      | inl few ↦ absurd (keeps (λ has'. omega (arith, few, has')))
    ]
