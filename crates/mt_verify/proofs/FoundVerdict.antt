-- What is found of a text is the verdict on it.
use Rattle.mt_verify.proofs.Prelude.{◌≡◌, ℕ, List, [], ◌++◌, length, map, get_or, sym, ap, ◌∙◌, subst, arith, IsPermutation, All, AllPairs, enumerate_from, flat_map, filter_map, append-nil, length-enumerate_from, length_permutation, History, Record, Log, Transcript, Outcome, Called, Looked, Counted, Step, IsRun, IsRunBy, IsTrueOf, calls_before, entry_of, listings_of, numbered_on, entry_text, listing_text, text_of, IsReadable, trees_of, ToldLine, none_told, only_told, printed_told, AreTold, IsSmall, IsToldBy, TellsNone, spelling_of, HaveGoneTo, IsToldRun, NoneIsTold, listings_by, GoneTree, AreLeastPoints, AreUpTo, EndsInTree, InPrintedOrder}
use Rattle.mt_verify.specs.Windows as of_steps
use Rattle.mt_verify.proofs.AllFound.{history_by, listings_are}
use Rattle.mt_verify.proofs.Filled.{filled}
use Rattle.mt_verify.proofs.Found.{IsFound}
use Rattle.mt_verify.proofs.FilledReads.{all_points}
use Rattle.mt_verify.proofs.FoundRun.{are_told, each_right, is_run, least_of_all}
use Rattle.mt_verify.proofs.Ordered.{order_splits}
use Rattle.mt_verify.proofs.ToldSteps.{ends_told, order_told}

-- ---- a run keeps the windows

same_many : (h : History) (list : List (ℕ × Record)) → IsPermutation (enumerate_from 1 h.records) list → length list ≡ length h.records
same_many h list is = length_permutation (enumerate_from 1 h.records) list is ∙ length-enumerate_from 1 h.records

ends_by : (h : History) (before calls : ℕ) (o : Outcome) → calls ≡ length h.records → IsTrueOf h before o → of_steps.EndsWithin calls o
ends_by h before calls (Called number call reply) same is = tt
ends_by h before calls (Looked lo hi k query value) same is = omega (arith, same, is.1)
ends_by h before calls (Counted said ranges) same is = tt

run_ends : (log : Log) (rows : ℕ) (t : Transcript) (steps : List Step) (trees : List History) → IsRunBy log rows t steps trees → All (of_steps.EndsInTree steps) steps
run_ends log rows t steps trees run k d within =
    let s : Step = get_or steps k d in
    let stands = run.reads k d within in
    ends_by stands.0 (calls_before steps s.tree s.phase) (length (filter_map (numbered_on s.tree) steps)) s.outcome (same_many stands.0 (filter_map (numbered_on s.tree) steps) (run.once s.tree stands.0 stands.1)) stands.2

module _ (log : Log) (rows : ℕ) (text : List ℕ) (small : (t : Transcript) (steps : List Step) (trees : List History) → IsRunBy log rows t steps trees → All (λ (s : Step). IsSmall s.outcome) steps) where
  printed_so : (t : Transcript) (steps : List Step) → t.version ≡ log.version → t.entries ≡ map entry_of steps → text_of t ≡ flat_map (entry_text log.version) (map entry_of steps) ++ flat_map listing_text t.lists
  printed_so t steps version entries = λ i. flat_map (entry_text (version i)) (entries i) ++ flat_map listing_text t.lists

  pub no_steps : TellsNone log text → (t : Transcript) → text ≡ text_of t → IsRun log rows t → ⊥
  no_steps none t printed is =
      let run = is.2 in
      none_told log text is.0 (flat_map listing_text t.lists) none run.asked (small t is.0 is.1 run) (printed ∙ printed_so t is.0 run.version run.told)

  module _ (told : List ToldLine) (behind : List ℕ) (told_by : IsToldBy log text told behind) where
    told_run : (t : Transcript) (steps : List Step) (trees : List History) → text ≡ text_of t → IsRunBy log rows t steps trees → IsToldRun log rows told behind t steps trees
    told_run t steps trees printed run =
        let only = only_told log text steps (flat_map listing_text t.lists) told behind told_by run.asked (small t steps trees run) (printed ∙ printed_so t steps run.version run.told) in
        record { run = run; are = only.0; lists = only.1 }

    pub no_run : NoneIsTold log rows told behind → (t : Transcript) → text ≡ text_of t → IsRun log rows t → ⊥
    no_run none t printed is = none t is.0 is.1 (told_run t is.0 is.1 printed is.2)

    pub not_in_order : (AllPairs InPrintedOrder told → ⊥) → NoneIsTold log rows told behind
    not_in_order not t steps trees is =
        not ((order_told log.version told steps is.are).1 (order_splits steps is.run.order).printed)

    pub not_ended : (All (EndsInTree told) told → ⊥) → NoneIsTold log rows told behind
    not_ended not t steps trees is = not ((ends_told log.version told steps is.are).1 (run_ends log rows t steps trees is.run))

    module _ (readable : IsReadable log.lines) (gone : List GoneTree) (numbers : List ℕ) (to : HaveGoneTo log rows told behind gone []) (found : IsFound log rows told (map (history_by rows) gone) numbers) where
      abbrev trees : List History
      trees = map (history_by rows) gone

      abbrev steps : List Step
      steps = filled trees told told numbers

      abbrev told_so : Transcript
      told_so = record { version = log.version; entries = map entry_of steps; lists = listings_of (trees_of log.lines) trees }

      are : AreTold log.version told steps
      are = are_told log rows told trees numbers found

      pub is_least : AreLeastPoints log rows text numbers
      is_least = record {
        transcript = told_so;
        printed = printed_told log text behind told steps told_by are ∙ ap (λ (l : List ℕ). flat_map (entry_text log.version) (map entry_of steps) ++ l)
            (to.listed ∙ (append-nil (flat_map listing_text (listings_by (trees_of log.lines) gone)) ∙ ap (flat_map listing_text) (sym (listings_are rows (trees_of log.lines) gone))));
        told = record { steps = steps; trees = trees; run = is_run log rows told trees numbers found (told_by.done (spelling_of log.version) steps are); list = sym (all_points log.version trees told told numbers (each_right log rows told trees numbers found)) };
        least = λ t others printed list.
            (let run = told_run t list.steps list.trees printed list.run in
            subst (AreUpTo numbers) (sym list.list) (least_of_all log rows told trees numbers found readable (told_by.done (spelling_of log.version) steps are) t list.steps list.trees list.run run.are));
      }
