-- What C is told of a call, read off all that is told.
use Rattle.mt_c.proofs.Prelude.{◌≡◌, ◌∙◌, ℕ, ap, refl, sym, subst, Option, Some, None, option_map, unwrap_or, Call, Query, Load, Range, Reply, OwnTree, OutRange, ToldCall, PreCalled, PreMade, pre_status, pre_word, AnswersQuery, AnswersCall, CalledAlone, CalledWord, CalledRange, EntryTold, IsAsked, MadeOrSpent, answered, entry_or_zero, found_status, no_range, no_told, out_of, told_in_c}

-- ---- all that is told

pub called_open : (call : Call) (before after : Option OwnTree) (t t' : OwnTree) (made : Option Reply) (told : ToldCall) → before ≡ Some t → after ≡ Some t'
    → MadeOrSpent t.engine t'.engine call made → told ≡ told_in_c made → AnswersCall no_told told_in_c call before after told.status told
called_open call before after t t' made told was is ok tells =
    subst (λ (x : Option OwnTree × (Option OwnTree × ToldCall)). AnswersCall no_told told_in_c call x.0 x.1.0 x.1.1.status x.1.1) (λ i. (sym was i, (sym is i, sym tells i))) (made, ok, refl, refl)

pub called_closed : (call : Call) (before after : Option OwnTree) (told : ToldCall) → before ≡ None → after ≡ None → told ≡ no_told → AnswersCall no_told told_in_c call before after told.status told
called_closed call before after told was is tells =
    subst (λ (x : Option OwnTree × (Option OwnTree × ToldCall)). AnswersCall no_told told_in_c call x.0 x.1.0 x.1.1.status x.1.1) (λ i. (sym was i, (sym is i, sym tells i))) (refl, refl, refl)

pub asked_open : (query : Query) (before after : Option OwnTree) (t t' : OwnTree) (found : Option Range) (status : ℕ) (out : OutRange) → before ≡ Some t → after ≡ Some t'
    → IsAsked t.engine t'.engine → found ≡ answered t.engine query → status ≡ found_status found → out ≡ out_of found → AnswersQuery query before after status out
asked_open query before after t t' found status out was is rest answers number shown =
    subst (λ (x : Option OwnTree × Option OwnTree). AnswersQuery query x.0 x.1 status out) (λ i. (sym was i, sym is i)) (rest, number ∙ ap found_status answers, shown ∙ ap out_of answers)

pub asked_closed : (query : Query) (before after : Option OwnTree) (status : ℕ) (out : OutRange) → before ≡ None → after ≡ None → status ≡ 9 → out ≡ no_range → AnswersQuery query before after status out
asked_closed query before after status out was is number shown = subst (λ (x : Option OwnTree × Option OwnTree). AnswersQuery query x.0 x.1 status out) (λ i. (sym was i, sym is i)) (refl, number, shown)

pub entry_open : (index : ℕ) (before after : Option OwnTree) (t t' : OwnTree) (found : Option ℕ) (entry : ℕ) → before ≡ Some t → after ≡ Some t'
    → IsAsked t.engine t'.engine → found ≡ option_map (λ (r : Range). r.entry) (answered t.engine (Load index)) → entry ≡ unwrap_or found 0 → EntryTold index before after entry
entry_open index before after t t' found entry was is rest answers told =
    subst (λ (x : Option OwnTree × Option OwnTree). EntryTold index x.0 x.1 entry) (λ i. (sym was i, sym is i)) (rest, told ∙ (ap (λ (o : Option ℕ). unwrap_or o 0) answers ∙ or_none (answered t.engine (Load index))))
  where
    or_none : (o : Option Range) → unwrap_or (option_map (λ (r : Range). r.entry) o) 0 ≡ entry_or_zero o
    or_none None = refl
    or_none (Some r) = refl

pub entry_closed : (index : ℕ) (before after : Option OwnTree) (entry : ℕ) → before ≡ None → after ≡ None → entry ≡ 0 → EntryTold index before after entry
entry_closed index before after entry was is none = subst (λ (x : Option OwnTree × Option OwnTree). EntryTold index x.0 x.1 entry) (λ i. (sym was i, sym is i)) (refl, none)

pub pre_open : (call : Call) (before after : Option OwnTree) (t t' : OwnTree) (made : Option (Option Reply)) (status word : ℕ) → before ≡ Some t → after ≡ Some t'
    → PreMade t.engine t'.engine call made → status ≡ pre_status made → word ≡ pre_word made → PreCalled call before after status word
pre_open call before after t t' made status word was is ok number tells =
    subst (λ (x : Option OwnTree × Option OwnTree). PreCalled call x.0 x.1 status word) (λ i. (sym was i, sym is i)) (made, ok, number, tells)

-- ---- a part of it

called_as : {A B : Type 0} (f : A → B) (blank : A) (told : Option Reply → A) (call : Call) (before after : Option OwnTree) (status : ℕ) (out : A)
    → AnswersCall blank told call before after status out → AnswersCall (f blank) (λ made. f (told made)) call before after status (f out)
called_as f blank told call None after status out h = (h.0, h.1, ap f h.2)
called_as f blank told call (Some t) None status out h = absurd h
called_as f blank told call (Some t) (Some t') status out h = (h.0, h.1, h.2, ap f h.3)

pub told_alone : (call : Call) (before after : Option OwnTree) (told : ToldCall) → AnswersCall no_told told_in_c call before after told.status told → CalledAlone call before after told.status
told_alone call before after told = called_as (λ (t : ToldCall). tt) no_told told_in_c call before after told.status told

pub told_word : (call : Call) (before after : Option OwnTree) (told : ToldCall) → AnswersCall no_told told_in_c call before after told.status told → CalledWord call before after told.status told.word
told_word call before after told = called_as (λ (t : ToldCall). t.word) no_told told_in_c call before after told.status told

pub told_range : (call : Call) (before after : Option OwnTree) (told : ToldCall) → AnswersCall no_told told_in_c call before after told.status told → CalledRange call before after told.status told.range
told_range call before after told = called_as (λ (t : ToldCall). t.range) no_told told_in_c call before after told.status told
