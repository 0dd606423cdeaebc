-- Section words one by one.
use Rattle.mt_pen.proofs.Prelude.{◌≡◌, ℕ, suc, ◌+◌, List, [], ◌∷◌, ◌++◌, length, refl, sym, ap, subst, ◌∙◌, arith, length-append, append_assoc, append-nil, map, Holder, Scan, PenPart, PassPart, SectionWord, least_from, lesser, none_open, scan_of, loaded_word, words_from, last_loaded, last_words, IsScanOf, pen_scanned, raised, with_loaded, cleared_from, loaded_from, IsWordOf, AreWordsFrom, HasScanned, drop, slice_set, slice_index, drop-append_seam}

-- ---- the words that were loaded last

words_count : (pass : ℕ) (words : List ℕ) → length (words_from pass words) ≡ length words
words_count pass [] = refl
words_count pass (word ∷ words) = ap suc (words_count (pass + 1) words)

words_back : (pass : ℕ) (words : List ℕ) → map loaded_word (words_from pass words) ≡ words
words_back pass [] = refl
words_back pass (word ∷ words) = ap (λ l. word ∷ l) (words_back (pass + 1) words)

pub is_scan : (before : List SectionWord) (words : List ℕ) (passes : ℕ) (scan : Scan) → length words ≡ passes → scan ≡ scan_of words → IsScanOf (before ++ words_from 0 words) passes scan
is_scan before words passes scan count found =
    let all : List SectionWord = before ++ words_from 0 words in
    let long : length all ≡ length before + passes = length-append before (words_from 0 words) ∙ ap (λ n. length before + n) (words_count 0 words ∙ count) in
    let behind : last_loaded passes all ≡ words_from 0 words = ap (λ n. drop n all) (omega (arith, long)) ∙ drop-append_seam before (words_from 0 words) in
    let same : last_words passes all ≡ words = ap (map loaded_word) behind ∙ words_back 0 words in
    record { many = omega (arith, long); turns = behind ∙ ap (words_from 0) (sym same); found = found ∙ ap scan_of (sym same) }

-- ---- one word more

least_more : (pass : ℕ) (words : List ℕ) (word : ℕ) (scan : Scan) → least_from pass (words ++ word ∷ []) scan ≡ lesser (pass + length words) word (least_from pass words scan)
least_more pass [] word scan = ap (λ k. lesser k word scan) (omega arith)
least_more pass (x ∷ words) word scan = least_more (pass + 1) words word (lesser pass x scan) ∙ ap (λ k. lesser k word (least_from (pass + 1) words (lesser pass x scan))) (omega arith)

raise : ℕ → ℕ → ℕ → List ℕ → List ℕ
raise ended pass word cleared = slice_set cleared pass (raised ended (slice_index cleared pass) word)

cleared_more : (ended pass : ℕ) (words : List ℕ) (word : ℕ) (cleared : List ℕ) → cleared_from ended pass (words ++ word ∷ []) cleared ≡ raise ended (pass + length words) word (cleared_from ended pass words cleared)
unfolding raise
cleared_more ended pass [] word cleared = ap (λ k. raise ended k word cleared) (omega arith)
cleared_more ended pass (x ∷ words) word cleared = let next : List ℕ = raise ended pass x cleared in cleared_more ended (pass + 1) words word next ∙ ap (λ k. raise ended k word (cleared_from ended (pass + 1) words next)) (omega arith)

loaded_more : (pass : ℕ) (words : List ℕ) (word : ℕ) (loaded : List Holder) → loaded_from pass (words ++ word ∷ []) loaded ≡ with_loaded (pass + length words) word (loaded_from pass words loaded)
loaded_more pass [] word loaded = ap (λ k. with_loaded k word loaded) (omega arith)
loaded_more pass (x ∷ words) word loaded = loaded_more (pass + 1) words word (with_loaded pass x loaded) ∙ ap (λ k. with_loaded k word (loaded_from (pass + 1) words (with_loaded pass x loaded))) (omega arith)

sections_more : (pass : ℕ) (words : List ℕ) (word : ℕ) → words_from pass (words ++ word ∷ []) ≡ words_from pass words ++ record { pass = pass + length words; word = word } ∷ []
sections_more pass [] word = ap (λ k. record { pass = k; word = word } ∷ []) (omega arith)
sections_more pass (x ∷ words) word =
    ap (λ (l : List SectionWord). record { pass = pass; word = x } ∷ l) (sections_more (pass + 1) words word)
    ∙ ap (λ k. (record { pass = pass; word = x } ∷ words_from (pass + 1) words) ++ record { pass = k; word = word } ∷ []) (omega arith)

words_more : (p : PenPart) (q : PassPart) (pass : ℕ) (words : List ℕ) (word : ℕ) → AreWordsFrom p q pass words → IsWordOf p q (pass + length words) word → AreWordsFrom p q pass (words ++ word ∷ [])
words_more p q pass [] word each here = (subst (λ k. IsWordOf p q k word) (omega arith) here, tt)
words_more p q pass (x ∷ words) word each here = (each.0, words_more p q (pass + 1) words word each.1 (subst (λ k. IsWordOf p q k word) (omega arith) here))

pub scanned_none : (p : PenPart) (q : PassPart) → HasScanned p q p none_open 0
scanned_none p q = record { words = []; count = refl; each = tt; found = refl; pen = sym (ap (λ (l : List SectionWord). record p { sections = l }) (append-nil p.sections)) }

at_count : {X : Type 0} (f : ℕ → X) (words : List ℕ) (pass : ℕ) → length words ≡ pass → f (0 + length words) ≡ f pass
at_count f words pass count = ap f (omega (arith, count))

pub scanned_more : (p : PenPart) (q : PassPart) (p' p'' : PenPart) (scan scan' : Scan) (pass word : ℕ) → HasScanned p q p' scan pass → p'' ≡ pen_scanned pass word p' → IsWordOf p q pass word → scan' ≡ lesser pass word scan → HasScanned p q p'' scan' (pass + 1)
unfolding raise
scanned_more p q p' p'' scan scan' pass word h step here found = record {
  words = h.words ++ word ∷ [];
  count = length-append h.words (word ∷ []) ∙ ap (λ n. n + 1) h.count;
  each = words_more p q 0 h.words word h.each (subst (λ k. IsWordOf p q k word) (omega (arith, h.count)) here);
  found = found ∙ ap (lesser pass word) h.found ∙ sym (least_more 0 h.words word none_open ∙ at_count (λ k. lesser k word (scan_of h.words)) h.words pass h.count);
  pen = step ∙ ap (pen_scanned pass word) h.pen ∙ sym (λ i. record p { cleared = cleared i; loaded = loaded i; sections = sections i });
}
  where
    cleared : cleared_from p.ended 0 (h.words ++ word ∷ []) p.cleared ≡ raise p.ended pass word (cleared_from p.ended 0 h.words p.cleared)
    cleared = cleared_more p.ended 0 h.words word p.cleared ∙ at_count (λ k. raise p.ended k word (cleared_from p.ended 0 h.words p.cleared)) h.words pass h.count

    loaded : loaded_from 0 (h.words ++ word ∷ []) p.loaded ≡ with_loaded pass word (loaded_from 0 h.words p.loaded)
    loaded = loaded_more 0 h.words word p.loaded ∙ at_count (λ k. with_loaded k word (loaded_from 0 h.words p.loaded)) h.words pass h.count

    sections : p.sections ++ words_from 0 (h.words ++ word ∷ []) ≡ (p.sections ++ words_from 0 h.words) ++ record { pass = pass; word = word } ∷ []
    sections =
        ap (λ (l : List SectionWord). p.sections ++ l) (sections_more 0 h.words word ∙ at_count (λ k. words_from 0 h.words ++ record { pass = k; word = word } ∷ []) h.words pass h.count)
        ∙ sym (append_assoc p.sections (words_from 0 h.words) (record { pass = pass; word = word } ∷ []))
