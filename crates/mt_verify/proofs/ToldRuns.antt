-- What is found of a tree holds of its history in every run that is told so.
use Rattle.mt_verify.proofs.Prelude.{◌≡◌, ◌⊎◌, ℕ, zero, suc, ◌+◌, ◌<◌, ◌≤◌, Bool, true, false, List, [], ◌∷◌, ◌++◌, Some, length, slice_get, refl, sym, ap, ◌∙◌, subst, inl, inr, arith, codes, ◌↔◌, IsSome, filter_map, same_Some, Reply, NoNodes, Shortage, Range, acted, Record, History, IsLegal, AreLegalFrom, limits_after, map_after, Limits, IsShort, IsRefused, most_rows, Log, Transcript, IsRunBy, Step, numbered_on, reply_text, ToldLine, AreTold, Numbered, Heard, Short, Noted, IsSmallShortage, shortage_printed, AreNotedOf, IsHeardOf, AreHeard, IsHeard, is_nomem, AreCallsOf, AreRecordsTold, IsRecordTold, calls_told}
use Rattle.mt_verify.specs.declared.noted.Heard.TheVariants.{Reply as Printed}
use Rattle.mt_verify.proofs.HeardCalls.{as_many_records, record_told}
use Rattle.mt_verify.proofs.Refusing.{acted_plainly}
use Rattle.mt_verify.proofs.SameShortages.{same_shortages}
use Rattle.mt_verify.proofs.Runs.{all_at}
use Rattle.mt_verify.proofs.SomeCalls.{Listed, some_list}
use Rattle.mt_verify.proofs.ToldSteps.{calls_of_steps}
use Rattle.mt_verify.proofs.ToldAlike.{nomem_text, third_m}

-- ---- a reply

-- a refusal begins so
begins_so : (version : ℕ) (r : Reply) → is_nomem r ≡ true → (rest : List ℕ) × (reply_text version r ≡ codes "nomem " ++ rest)
begins_so version (NoNodes s) short = (_, refl)
begins_so version r short = absurd (cc)

pub refusal_of : (r : Reply) → is_nomem r ≡ true → (s : Shortage) × (r ≡ NoNodes s)
refusal_of (NoNodes s) short = (s, refl)
refusal_of r short = absurd (cc)

-- what is heard of a reply may be told of the reply of a history, where that is short of small numbers alone
heard_of : (version tree : ℕ) (told : List ToldLine) (x : Numbered) (heard : Heard) (r : Reply) → IsHeardOf told tree x heard → reply_text version r ≡ x.reply.now → ((s : Shortage) → r ≡ NoNodes s → IsSmallShortage s) → IsHeard version heard r
heard_of version tree told x (Printed bytes) r is prints small =
    (no (is_nomem r) refl, prints ∙ sym is.0)
  where
    no : (b : Bool) → is_nomem r ≡ b → is_nomem r ≡ false
    no false e = e
    no true e = let b = begins_so version r e in absurd (is.1 b.0 (sym prints ∙ b.1))
heard_of version tree told x (Short s) r is prints small =
    let third : third_m (reply_text version r) ≡ true = ap third_m (prints ∙ is.0.is.printed) in
    let nomem : is_nomem r ≡ true = sym (nomem_text version r) ∙ third in
    let other = refusal_of r nomem in
    let text : shortage_printed s ≡ shortage_printed other.0 = sym is.0.is.printed ∙ (sym prints ∙ ap (reply_text version) other.1) in
    record {
      other = other.0;
      is = other.1;
      same = same_shortages s other.0 is.1 (small other.0 other.1) text;
      holder = is.0.is.some;
      epoch = is.0.epoch;
    }

-- ---- all calls of a tree

pub all_heard : (version tree : ℕ) (told : List ToldLine) (numbered : List Numbered) (noted : List Noted) (records : List Record) → AreNotedOf told tree numbered noted → length records ≡ length numbered
    → ((i : ℕ) (x : Numbered) (r : Record) → slice_get numbered i ≡ Some x → slice_get records i ≡ Some r → (r.call ≡ x.call) × (reply_text version r.reply ≡ x.reply.now) × ((s : Shortage) → r.reply ≡ NoNodes s → IsSmallShortage s))
    → AreHeard version noted records
all_heard version tree told [] [] [] are many each = tt
all_heard version tree told [] [] (r ∷ records) are many each = absurd (omega (arith, many))
all_heard version tree told [] (n ∷ noted) records are many each = absurd are
all_heard version tree told (x ∷ numbered) [] records are many each = absurd are
all_heard version tree told (x ∷ numbered) (n ∷ noted) [] are many each = absurd (omega (arith, many))
all_heard version tree told (x ∷ numbered) (n ∷ noted) (r ∷ records) are many each =
    let one = each 0 x r refl refl in (
      one.0 ∙ sym are.0.call_is,
      heard_of version tree told x n.heard r.reply are.0.heard one.1 one.2,
      all_heard version tree told numbered noted records are.1 (omega (arith, many)) (λ i y s is at. each (suc i) y s is at),
    )

-- ---- a run that is told so

-- the numbers of a shortage of few rows are small
short_is_small : (l : Limits) (m : List Range) (s : Shortage) → l.rows ≤ most_rows → IsShort l m s → IsSmallShortage s
short_is_small l m s few short = record {
  need = omega (arith, short.need, short.low, few);
  free = omega (arith, short.all, few);
  live = omega (arith, short.all, few);
  held = omega (arith, short.all, few);
}

-- in a legal history of few rows all shortages are of small numbers, and name a holder where rows were held
pub record IsRightShortage (s : Shortage) : Type 0 where
  pub small : IsSmallShortage s
  pub holder : IsSome s.by ↔ (0 < s.held)

pub small_replies : (h : History) → h.rows ≤ most_rows → (ended : ℕ) (m : List Range) (records : List Record) → AreLegalFrom h ended m records → (i : ℕ) (r : Record) (s : Shortage) → slice_get records i ≡ Some r → r.reply ≡ NoNodes s → IsRightShortage s
small_replies h few ended m [] legal i r s is short = absurd (cc)
small_replies h few ended m (x ∷ records) legal (suc i) r s is short = small_replies h few (ended + 1) (map_after h.kind m x) records legal.1 i r s is short
small_replies h few ended m (x ∷ records) legal zero r s is short = here legal.0
  where
    same : x ≡ r
    same = same_Some x r is

    here : (x.reply ≡ (acted h.kind m x.call).1) ⊎ IsRefused h.kind (limits_after h ended) m x.call x.reply → IsRightShortage s
    here (inl answered) =
        let plain : is_nomem (acted h.kind m x.call).1 ≡ false = acted_plainly h.kind m x.call in
        let nomem : is_nomem (acted h.kind m x.call).1 ≡ true = ap is_nomem (sym answered ∙ (ap (λ (y : Record). y.reply) same ∙ short)) in
        absurd (cc)
    here (inr refused) =
        let told : NoNodes s ≡ NoNodes refused.shortage = sym short ∙ (ap (λ (y : Record). y.reply) (sym same) ∙ refused.told) in
        let one : s ≡ refused.shortage = cc in
        subst IsRightShortage (sym one) (record { small = short_is_small (limits_after h ended) m refused.shortage few refused.short; holder = refused.short.holder })

-- ---- a tree of a run

module _ (log : Log) (rows : ℕ) (t : Transcript) (steps : List Step) (trees : List History) (run : IsRunBy log rows t steps trees) (told : List ToldLine) (are : AreTold log.version told steps) (few : rows ≤ most_rows)
    (tree : ℕ) (h : History) (is : slice_get trees tree ≡ Some h) where
  recorded : AreRecordsTold log.version (calls_told tree told) (filter_map (numbered_on tree) steps)
  recorded = calls_of_steps log.version tree told steps are

  legal : IsLegal h
  legal = all_at IsLegal trees tree h run.legal is

  sized : h.rows ≡ rows
  sized = all_at (λ (x : History). x.rows ≡ rows) trees tree h run.sized is

  -- some list has the tree's calls in the order of their numbers
  pub counted : Listed (calls_told tree told)
  counted = some_list log.version (calls_told tree told) (filter_map (numbered_on tree) steps) h.records recorded (run.once tree h is)

  module _ (numbered : List Numbered) (calls : AreCallsOf tree told numbered) where
    each_record : (i : ℕ) (x : Numbered) (r : Record) → slice_get numbered i ≡ Some x → slice_get h.records i ≡ Some r → IsRecordTold log.version (1 + i, x) (1 + i, r)
    each_record i x r here at = record_told log.version tree told steps numbered h.records calls (run.once tree h is) recorded i x r here at

    small_at : (i : ℕ) (r : Record) (s : Shortage) → slice_get h.records i ≡ Some r → r.reply ≡ NoNodes s → IsSmallShortage s
    small_at i r s at short = (small_replies h (omega (arith, sized, few)) 0 h.opening h.records legal i r s at short).small

    -- what is heard of the calls is what the history has
    pub heard_so : (noted : List Noted) → AreNotedOf told tree numbered noted → AreHeard log.version noted h.records
    heard_so noted notes =
        all_heard log.version tree told numbered noted h.records notes (as_many_records log.version tree told steps numbered h.records calls (run.once tree h is) recorded)
        (λ i x r here at. ((each_record i x r here at).call, (each_record i x r here at).reply, λ s short. small_at i r s at short))

    pub as_many_calls : length h.records ≡ length numbered
    as_many_calls = as_many_records log.version tree told steps numbered h.records calls (run.once tree h is) recorded
