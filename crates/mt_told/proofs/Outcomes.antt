-- What came of a deed stands at the front of a text in one way.
use Rattle.mt_told.proofs.Prelude.{◌≡◌, ◌≢◌, ℕ, zero, suc, ◌/◌, ◌%◌, ◌<◌, ◌≤◌, Bool, true, false, cond, List, [], ◌∷◌, ◌++◌, Bor, length, length-append, append_assoc, codes, sym, ap, ◌∙◌, arith, rules, ◌==◌, decimal, digit_glyph, digits, digits_onto, nat_tests, Call, Range, Reply, range_text, Said, Outcome, Called, Looked, Counted, reply_text, IsInLine, IsLineBefore, IsNumberBefore, IsOutcomeOf, TellsOf, outcome_text, FitsLine, IsSpelledOf, Spelling, spelled, Wrote, Copied, Lawful}
use Rattle.mt_base.specs.declared.replies.Reply.TheVariants as replies
use Rattle.mt_told.specs.declared.steps.Deed.TheVariants as deeds

-- ---- no reply ends a line

pub in_line_append : (xs ys : List ℕ) → IsInLine xs → IsInLine ys → IsInLine (xs ++ ys)
in_line_append [] ys hx hy = hy
in_line_append (x ∷ xs) ys hx hy = (hx.0, in_line_append xs ys hx.1 hy)

glyph_in_line : (d : ℕ) → d < 10 → digit_glyph false d ≢ 10
glyph_in_line d below is = grind (arith, nat_tests)

digits_in_line : (k n : ℕ) (acc : List ℕ) → IsInLine acc → IsInLine (digits_onto k 10 false n acc)
digits_in_line zero n acc h = h
digits_in_line (suc k) n acc h =
    let more : IsInLine (digit_glyph false (n % 10) ∷ acc) = (glyph_in_line (n % 10) (omega arith), h) in
    either (n / 10 == 0) (digit_glyph false (n % 10) ∷ acc) (digits_onto k 10 false (n / 10) (digit_glyph false (n % 10) ∷ acc)) more (digits_in_line k (n / 10) (digit_glyph false (n % 10) ∷ acc) more)
  where
    either : (b : Bool) (xs ys : List ℕ) → IsInLine xs → IsInLine ys → IsInLine (cond b xs ys)
    either true xs ys hx hy = hx
    either false xs ys hx hy = hy

pub number_in_line : (n : ℕ) → IsInLine (decimal n)
unfolding digits
number_in_line n = digits_in_line 64 n [] tt

space_before : (xs : List ℕ) → IsInLine xs → IsInLine (32 ∷ xs)
space_before xs h = (λ is. absurd (omega (arith, is)), h)

number_before : (n : ℕ) (xs : List ℕ) → IsInLine xs → IsInLine (32 ∷ (decimal n ++ xs))
number_before n xs h = space_before (decimal n ++ xs) (in_line_append (decimal n) xs (number_in_line n) h)

range_in_line : (r : Range) → IsInLine (range_text r)
range_in_line r =
    let entry = space_before (decimal r.entry) (number_in_line r.entry) in
    let last = number_before r.last (codes " " ++ decimal r.entry) entry in
    in_line_append (decimal r.first) (codes " " ++ (decimal r.last ++ (codes " " ++ decimal r.entry))) (number_in_line r.first) last

over_in_line : (b : Bool) (entry : ℕ) → IsInLine (cond b (codes "ok") (codes "over " ++ decimal entry))
over_in_line true entry = search rules
over_in_line false entry = in_line_append (codes "over ") (decimal entry) (search rules) (number_in_line entry)

was_in_line : (b : Bool) (r : Range) → IsInLine (cond b (codes "was " ++ decimal r.entry) (codes "was " ++ range_text r))
was_in_line true r = in_line_append (codes "was ") (decimal r.entry) (search rules) (number_in_line r.entry)
was_in_line false r = in_line_append (codes "was ") (range_text r) (search rules) (range_in_line r)

pub reply_in_line : (version : ℕ) (r : Reply) → IsInLine (reply_text version r)
reply_in_line version replies.Ok = search rules
reply_in_line version (replies.Over entry) = over_in_line (version == 1) entry
reply_in_line version (replies.Start start) = in_line_append (codes "start ") (decimal start) (search rules) (number_in_line start)
reply_in_line version (replies.Was r) = was_in_line (version == 1) r
reply_in_line version replies.None = search rules
reply_in_line version replies.Exists = search rules
reply_in_line version replies.Invalid = search rules
reply_in_line version replies.Busy = search rules
reply_in_line version (replies.NoNodes s) =
    let held = space_before (decimal s.held) (number_in_line s.held) in
    let live = number_before s.live (codes " " ++ decimal s.held) held in
    let free = number_before s.free (codes " " ++ (decimal s.live ++ (codes " " ++ decimal s.held))) live in
    let need = number_before s.need (codes " " ++ (decimal s.free ++ (codes " " ++ (decimal s.live ++ (codes " " ++ decimal s.held))))) free in
    in_line_append (codes "nomem ") (decimal s.need ++ (codes " " ++ (decimal s.free ++ (codes " " ++ (decimal s.live ++ (codes " " ++ decimal s.held)))))) (search rules) need.1

-- ---- what came of a deed

call_text : (sp : Spelling) (n : ℕ) (call : Call) (r : Reply) (after : List ℕ) → outcome_text sp (Called n call r) ++ after ≡ decimal n ++ (32 ∷ (sp.reply r ++ (10 ∷ after)))
call_text sp n call r after = simp append_assoc

call_written : (number : ℕ) (reply rest : List ℕ) → ((decimal number ++ (32 ∷ reply)) ++ (10 ∷ [])) ++ rest ≡ decimal number ++ (32 ∷ (reply ++ (10 ∷ rest)))
call_written number reply rest = simp append_assoc

pub call_told : (call : Call) (number : ℕ) (reply : Bor (List ℕ)) (text line rest : List ℕ) → IsNumberBefore text 32 number line → IsLineBefore line reply.now rest → TellsOf (deeds.Call call) text (Wrote number call reply) rest
call_told call number reply text line rest before behind =
    let long : length rest < length line = omega (arith, ap length behind.printed, length-append reply.now (10 ∷ rest)) in
    let shorter : length rest ≤ length text = omega (arith, long, ap length before.printed, length-append (decimal number) (32 ∷ line)) in
    let written : text ≡ ((decimal number ++ (32 ∷ reply.now)) ++ (10 ∷ [])) ++ rest =
    before.printed ∙ (ap (λ (t : List ℕ). decimal number ++ (32 ∷ t)) behind.printed ∙ sym (call_written number reply.now rest)) in
    record { only = only_so; its = its_so; printed = printed_so; written = written; form = behind.inside; shorter = shorter }
  where
    only_so : (sp : Spelling) (o : Outcome) (after : List ℕ) → IsOutcomeOf (deeds.Call call) o → FitsLine sp o → text ≡ outcome_text sp o ++ after → IsSpelledOf sp (Wrote number call reply) o × (rest ≡ after)
    only_so sp (Called n c r) after is small other =
        let front = before.only n (sp.reply r ++ (10 ∷ after)) small.0 (other ∙ call_text sp n c r after) in
        let one = behind.only (sp.reply r) after small.1 (sym front.1) in
        ((front.0, is, one.0), sym one.1)
    only_so sp (Looked lo hi k q v) after is small other = absurd is
    only_so sp (Counted s ranges) after is small other = absurd is

    its_so : (sp : Spelling) (o : Outcome) → IsSpelledOf sp (Wrote number call reply) o → IsOutcomeOf (deeds.Call call) o
    its_so sp (Called n c r) told = told.1
    its_so sp (Looked lo hi k q v) told = absurd told
    its_so sp (Counted s ranges) told = absurd told

    printed_so : (sp : Spelling) (o : Outcome) → IsSpelledOf sp (Wrote number call reply) o → text ≡ outcome_text sp o ++ rest
    printed_so sp (Called n c r) told =
        before.printed ∙ (ap (λ (t : List ℕ). decimal number ++ (32 ∷ t)) behind.printed
        ∙ (sym (ap (λ (m : ℕ). decimal m ++ (32 ∷ (reply.now ++ (10 ∷ rest)))) told.0)
        ∙ (sym (ap (λ (t : List ℕ). decimal n ++ (32 ∷ (t ++ (10 ∷ rest)))) told.2)
        ∙ sym (call_text sp n c r rest))))
    printed_so sp (Looked lo hi k q v) told = absurd told
    printed_so sp (Counted s ranges) told = absurd told

count_written : (word count after : List ℕ) → ((word ++ count) ++ (10 ∷ [])) ++ after ≡ word ++ (count ++ (10 ∷ after))
count_written word count after = simp append_assoc

pub copy_told : (count : Bor (List ℕ)) (text line rest : List ℕ) → text ≡ codes "copied " ++ line → IsLineBefore line count.now rest → TellsOf deeds.Copy text (Copied count) rest
copy_told count text line rest before behind =
    let long : length rest < length line = omega (arith, ap length behind.printed, length-append count.now (10 ∷ rest)) in
    let shorter : length rest ≤ length text = omega (arith, long, ap length before, length-append (codes "copied ") line) in
    let written : text ≡ ((codes "copied " ++ count.now) ++ (10 ∷ [])) ++ rest =
    before ∙ (ap (λ (t : List ℕ). codes "copied " ++ t) behind.printed ∙ sym (count_written (codes "copied ") count.now rest)) in
    record { only = only_so; its = its_so; printed = printed_so; written = written; form = behind.inside; shorter = shorter }
  where
    only_so : (sp : Spelling) (o : Outcome) (after : List ℕ) → IsOutcomeOf deeds.Copy o → FitsLine sp o → text ≡ outcome_text sp o ++ after → IsSpelledOf sp (Copied count) o × (rest ≡ after)
    only_so sp (Called n c r) after is small other = absurd is
    only_so sp (Looked lo hi k q v) after is small other = absurd is
    only_so sp (Counted s ranges) after is small other =
        let said : text ≡ ((codes "copied " ++ sp.count (length ranges)) ++ (10 ∷ [])) ++ after = other ∙ ap (λ (f : ℕ → Said). (spelled sp (f (length ranges)) ++ (10 ∷ [])) ++ after) is in
        let same : codes "copied " ++ line ≡ codes "copied " ++ (sp.count (length ranges) ++ (10 ∷ after)) = sym before ∙ (said ∙ count_written (codes "copied ") (sp.count (length ranges)) after) in
        let front : line ≡ sp.count (length ranges) ++ (10 ∷ after) = (cc) in
        let one = behind.only (sp.count (length ranges)) after small front in
        ((is, one.0), sym one.1)

    its_so : (sp : Spelling) (o : Outcome) → IsSpelledOf sp (Copied count) o → IsOutcomeOf deeds.Copy o
    its_so sp (Called n c r) told = absurd told
    its_so sp (Looked lo hi k q v) told = absurd told
    its_so sp (Counted s ranges) told = told.0

    printed_so : (sp : Spelling) (o : Outcome) → IsSpelledOf sp (Copied count) o → text ≡ outcome_text sp o ++ rest
    printed_so sp (Called n c r) told = absurd told
    printed_so sp (Looked lo hi k q v) told = absurd told
    printed_so sp (Counted s ranges) told =
        before ∙ (ap (λ (t : List ℕ). codes "copied " ++ t) behind.printed
        ∙ (sym (ap (λ (t : List ℕ). codes "copied " ++ (t ++ (10 ∷ rest))) told.1)
        ∙ (sym (count_written (codes "copied ") (sp.count (length ranges)) rest)
        ∙ sym (ap (λ (f : ℕ → Said). (spelled sp (f (length ranges)) ++ (10 ∷ [])) ++ rest) told.0))))

pub check_told : (count : Bor (List ℕ)) (text line rest : List ℕ) → text ≡ codes "lawful " ++ line → IsLineBefore line count.now rest → TellsOf deeds.Check text (Lawful count) rest
check_told count text line rest before behind =
    let long : length rest < length line = omega (arith, ap length behind.printed, length-append count.now (10 ∷ rest)) in
    let shorter : length rest ≤ length text = omega (arith, long, ap length before, length-append (codes "lawful ") line) in
    let written : text ≡ ((codes "lawful " ++ count.now) ++ (10 ∷ [])) ++ rest =
    before ∙ (ap (λ (t : List ℕ). codes "lawful " ++ t) behind.printed ∙ sym (count_written (codes "lawful ") count.now rest)) in
    record { only = only_so; its = its_so; printed = printed_so; written = written; form = behind.inside; shorter = shorter }
  where
    only_so : (sp : Spelling) (o : Outcome) (after : List ℕ) → IsOutcomeOf deeds.Check o → FitsLine sp o → text ≡ outcome_text sp o ++ after → IsSpelledOf sp (Lawful count) o × (rest ≡ after)
    only_so sp (Called n c r) after is small other = absurd is
    only_so sp (Looked lo hi k q v) after is small other = absurd is
    only_so sp (Counted s ranges) after is small other =
        let said : text ≡ ((codes "lawful " ++ sp.count (length ranges)) ++ (10 ∷ [])) ++ after = other ∙ ap (λ (f : ℕ → Said). (spelled sp (f (length ranges)) ++ (10 ∷ [])) ++ after) is in
        let same : codes "lawful " ++ line ≡ codes "lawful " ++ (sp.count (length ranges) ++ (10 ∷ after)) = sym before ∙ (said ∙ count_written (codes "lawful ") (sp.count (length ranges)) after) in
        let front : line ≡ sp.count (length ranges) ++ (10 ∷ after) = (cc) in
        let one = behind.only (sp.count (length ranges)) after small front in
        ((is, one.0), sym one.1)

    its_so : (sp : Spelling) (o : Outcome) → IsSpelledOf sp (Lawful count) o → IsOutcomeOf deeds.Check o
    its_so sp (Called n c r) told = absurd told
    its_so sp (Looked lo hi k q v) told = absurd told
    its_so sp (Counted s ranges) told = told.0

    printed_so : (sp : Spelling) (o : Outcome) → IsSpelledOf sp (Lawful count) o → text ≡ outcome_text sp o ++ rest
    printed_so sp (Called n c r) told = absurd told
    printed_so sp (Looked lo hi k q v) told = absurd told
    printed_so sp (Counted s ranges) told =
        before ∙ (ap (λ (t : List ℕ). codes "lawful " ++ t) behind.printed
        ∙ (sym (ap (λ (t : List ℕ). codes "lawful " ++ (t ++ (10 ∷ rest))) told.1)
        ∙ (sym (count_written (codes "lawful ") (sp.count (length ranges)) rest)
        ∙ sym (ap (λ (f : ℕ → Said). (spelled sp (f (length ranges)) ++ (10 ∷ [])) ++ rest) told.0))))
