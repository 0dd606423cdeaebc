-- What a scan tells: the least epoch with its holder, who was found with a section open.
use Rattle.mt_pen.proofs.Prelude.{◌≡◌, ◌≢◌, ◌⊎◌, ℕ, suc, ◌+◌, ◌-◌, ◌/◌, ◌^◌, ◌<◌, ◌≤◌, ◌==◌, ◌&&◌, ◌||◌, Bool, true, false, Option, Some, None, IfSome, nat_lt, List, [], ◌∷◌, length, refl, sym, ap, subst, ◌∙◌, arith, inl, inr, if◌then◌else◌, Contains, nat_tests, eqb-true, eqb-false, Holder, Scan, PenPart, PassPart, section_word, least_from, lesser, none_open, with_loaded, loaded_from, epoch_told, is_among, is_loaded, IsWordOf, AreWordsFrom}

holder_at : ℕ → ℕ → Holder
holder_at pass word = record { pass = pass; epoch = word / 2 }

-- a fact of a scan holds after one more word, if it holds of what the word may put there
lesser_keeps : (P : Scan → Type 0) (pass word : ℕ) (scan : Scan) → P scan → (word ≢ 0 → P (record { least = word / 2; by = Some (record { pass = pass; epoch = word / 2 }) })) → P (lesser pass word scan)
lesser_keeps P pass word scan old new = closed (word == 0) refl
  where
    below : (b : Bool) → word ≢ 0 → P (if b then record { least = word / 2; by = Some (record { pass = pass; epoch = word / 2 }) } else scan)
    below true other = new other
    below false other = old

    closed : (b : Bool) → (word == 0) ≡ b → P (if b then scan else (if nat_lt (word / 2) scan.least then record { least = word / 2; by = Some (record { pass = pass; epoch = word / 2 }) } else scan))
    closed true is = old
    closed false is = below (nat_lt (word / 2) scan.least) (eqb-false word 0 is)

-- The least epoch is that of the holder, who is one of so many passes, and not the joined one where that has no section open.
pub record Tells (q : PassPart) (passes : ℕ) (scan : Scan) : Type 0 where
  pub least : ((scan.by ≡ None) × (scan.least ≡ 2 ^ 64 - 1)) ⊎ ((holder : Holder) × (scan.by ≡ Some holder) × (scan.least ≡ holder.epoch))
  pub pass : (holder : Holder) → scan.by ≡ Some holder → (holder.pass < passes) × (q.standing ≡ None → holder.pass ≢ q.number)

tells_none : (q : PassPart) (passes : ℕ) → Tells q passes none_open
tells_none q passes = record { least = inl (refl, refl); pass = λ holder is. cc }

tells_found : (p : PenPart) (q : PassPart) (passes pass word : ℕ) → IsWordOf p q pass word → pass < passes → word ≢ 0 → Tells q passes (record { least = word / 2; by = Some (record { pass = pass; epoch = word / 2 }) })
tells_found p q passes pass word here has other = record {
  least = inr (record { pass = pass; epoch = word / 2 }, refl, refl);
  pass = λ holder is. let same : pass ≡ holder.pass = cc in subst (λ k. (k < passes) × (q.standing ≡ None → k ≢ q.number)) same (has, λ closed at. other (here.own (sym at) ∙ ap section_word closed));
}

tells_from : (p : PenPart) (q : PassPart) (passes pass : ℕ) (words : List ℕ) (scan : Scan) → AreWordsFrom p q pass words → pass + length words ≤ passes → Tells q passes scan → Tells q passes (least_from pass words scan)
tells_from p q passes pass [] scan each few tells = tells
tells_from p q passes pass (word ∷ words) scan each few tells = tells_from p q passes (pass + 1) words (lesser pass word scan) each.1 (omega arith)
    (lesser_keeps (λ (x : Scan). Tells q passes x) pass word scan tells (tells_found p q passes pass word each.0 (omega arith)))

pub tells : (p : PenPart) (q : PassPart) (words : List ℕ) → AreWordsFrom p q 0 words → Tells q (length words) (least_from 0 words none_open)
tells p q words each = tells_from p q (length words) 0 words none_open each (omega arith) (tells_none q (length words))

-- ---- the least epoch

pub words_least : (pass : ℕ) (words : List ℕ) (scan : Scan) → scan.least ≡ epoch_told scan.by → (least_from pass words scan).least ≡ epoch_told (least_from pass words scan).by
words_least pass [] scan is = is
words_least pass (word ∷ words) scan is = words_least (pass + 1) words (lesser pass word scan) (lesser_keeps (λ (x : Scan). x.least ≡ epoch_told x.by) pass word scan is (λ other. refl))

pub told_least : (by : Option Holder) (least : ℕ) → least ≡ epoch_told by → ((by ≡ None) × (least ≡ 2 ^ 64 - 1)) ⊎ ((holder : Holder) × (by ≡ Some holder) × (least ≡ holder.epoch))
told_least None least is = inl (refl, is)
told_least (Some h) least is = inr (h, refl, is)

-- ---- who was found

or_true : (a b : Bool) → b ≡ true → (a || b) ≡ true
or_true true b is = refl
or_true false b is = is

kept_among : (by : Option Holder) (h : Holder) (loaded : List Holder) → is_loaded by loaded ≡ true → is_loaded by (h ∷ loaded) ≡ true
kept_among None h loaded is = refl
kept_among (Some x) h loaded is = or_true _ _ is

is_first : (h : Holder) (loaded : List Holder) → is_among h (h ∷ loaded) ≡ true
is_first h loaded = grind (arith, nat_tests)

word_loaded : (pass word : ℕ) (scan : Scan) (loaded : List Holder) → is_loaded scan.by loaded ≡ true → is_loaded (lesser pass word scan).by (with_loaded pass word loaded) ≡ true
word_loaded pass word scan loaded is = closed (word == 0) refl
  where
    below : (b : Bool) → is_loaded (if b then record { least = word / 2; by = Some (record { pass = pass; epoch = word / 2 }) } else scan).by (record { pass = pass; epoch = word / 2 } ∷ loaded) ≡ true
    below true = is_first (record { pass = pass; epoch = word / 2 }) loaded
    below false = kept_among scan.by (record { pass = pass; epoch = word / 2 }) loaded is

    closed : (b : Bool) → (word == 0) ≡ b → is_loaded (if b then scan else (if nat_lt (word / 2) scan.least then record { least = word / 2; by = Some (record { pass = pass; epoch = word / 2 }) } else scan)).by (if b then loaded else record { pass = pass; epoch = word / 2 } ∷ loaded) ≡ true
    closed true e = is
    closed false e = below (nat_lt (word / 2) scan.least)

pub words_loaded : (pass : ℕ) (words : List ℕ) (scan : Scan) (loaded : List Holder) → is_loaded scan.by loaded ≡ true → is_loaded (least_from pass words scan).by (loaded_from pass words loaded) ≡ true
words_loaded pass [] scan loaded is = is
words_loaded pass (word ∷ words) scan loaded is = words_loaded (pass + 1) words (lesser pass word scan) (with_loaded pass word loaded) (word_loaded pass word scan loaded is)

and_true : (a b : Bool) → (a && b) ≡ true → (a ≡ true) × (b ≡ true)
and_true true b is = (refl, is)
and_true false b is = cc

or_false : (a b : Bool) → a ≡ false → (a || b) ≡ true → b ≡ true
or_false a b off is = let at : (false || b) ≡ true = subst (λ x. (x || b) ≡ true) off is in at

among_here : (x h : Holder) (loaded : List Holder) → (b : Bool) → ((x.pass == h.pass) && (x.epoch == h.epoch)) ≡ b → (((x.pass == h.pass) && (x.epoch == h.epoch)) ≡ false → Contains loaded h) → Contains (x ∷ loaded) h
among_here x h loaded true here rest = let a = and_true _ _ here in let e : x.pass ≡ h.pass = eqb-true _ _ a.0 in let f : x.epoch ≡ h.epoch = eqb-true _ _ a.1 in (0, omega arith, λ i. record { pass = e i; epoch = f i })
among_here x h loaded false here rest = let c : Contains loaded h = rest here in (suc c.0, omega (arith, c.1), c.2)

among : (h : Holder) (loaded : List Holder) → is_among h loaded ≡ true → Contains loaded h
among h [] is = cc
among h (x ∷ loaded) is = among_here x h loaded ((x.pass == h.pass) && (x.epoch == h.epoch)) refl (λ off. among h loaded (or_false ((x.pass == h.pass) && (x.epoch == h.epoch)) (is_among h loaded) off is))

pub found_loaded : (by : Option Holder) (loaded : List Holder) → is_loaded by loaded ≡ true → IfSome by (Contains loaded)
found_loaded None loaded is = tt
found_loaded (Some h) loaded is = among h loaded is
