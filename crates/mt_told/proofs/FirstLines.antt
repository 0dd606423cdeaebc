-- First lines stand at the front of a text in one way.
use Rattle.mt_told.proofs.Prelude.{◌≡◌, ◌≢◌, ℕ, ◌<◌, ◌^◌, true, List, [], ◌∷◌, ◌++◌, append_assoc, codes, refl, sym, ap, ◌∙◌, arith, decimal, append_cancel_left, Kind, kind_text, is_name, number_is_field, IsNumberBefore, head_line, BeginsWithNoHead, IsHead, IsHeadBefore, IsKindBefore, IsNameBefore, HasNoByte, head_text, ListingHead}
use Rattle.mt_told.proofs.OneWay.{numbers_apart}
use Rattle.mt_told.proofs.Words.{kind_lacks, kinds_apart, lacked, lacked_by_both, name_lacks, names_apart}

abbrev tree : List ℕ
tree = codes "tree "

-- grouped to the right
right : (name : List ℕ) (kind : Kind) (count : ℕ) (rest : List ℕ) → head_line name kind count ++ rest ≡ tree ++ (name ++ (32 ∷ (kind_text kind ++ (32 ∷ (decimal count ++ (10 ∷ rest))))))
right name kind count rest = simp append_assoc

-- ---- what is read

-- a text behind `tree `, a name and a kind
module _ (text named_text kind_part count_part : List ℕ) (is : text ≡ tree ++ named_text) where
  pub head_before : (name : List ℕ) (kind : Kind) (count : ℕ) (rest : List ℕ) → count < 2 ^ 64 → IsNameBefore named_text name kind_part → IsKindBefore kind_part kind count_part → IsNumberBefore count_part 10 count rest
      → IsHeadBefore text (record { name = name; kind = kind; count = count }) rest
  head_before name kind count rest fits n k c = record {
    head = record { named = n.named; small = fits };
    printed = is ∙ (ap (λ (t : List ℕ). tree ++ t) (n.printed ∙ ap (λ (t : List ℕ). name ++ (32 ∷ t)) (k.printed ∙ ap (λ (t : List ℕ). kind_text kind ++ (32 ∷ t)) c.printed)) ∙ sym (right name kind count rest));
  }

  -- what stands behind `tree ` in a text with a first line
  behind_tree : (h : ListingHead) (rest : List ℕ) → text ≡ head_text h ++ rest → named_text ≡ h.name ++ (32 ∷ (kind_text h.kind ++ (32 ∷ (decimal h.count ++ (10 ∷ rest)))))
  behind_tree h rest other = append_cancel_left tree named_text _ (sym is ∙ (other ∙ right h.name h.kind h.count rest))

  pub no_name : ((name rest : List ℕ) → is_name name ≡ true → named_text ≡ name ++ (32 ∷ rest) → ⊥) → BeginsWithNoHead text
  no_name none h rest good other = none h.name _ good.named (behind_tree h rest other)

  module _ (name : List ℕ) (n : IsNameBefore named_text name kind_part) where
    behind_name : (h : ListingHead) (rest : List ℕ) → IsHead h → text ≡ head_text h ++ rest → kind_part ≡ kind_text h.kind ++ (32 ∷ (decimal h.count ++ (10 ∷ rest)))
    behind_name h rest good other = sym (n.only h.name _ good.named (behind_tree h rest other)).1

    pub no_kind : ((kind : Kind) (rest : List ℕ) → kind_part ≡ kind_text kind ++ (32 ∷ rest) → ⊥) → BeginsWithNoHead text
    no_kind none h rest good other = none h.kind _ (behind_name h rest good other)

    pub no_count : (kind : Kind) → IsKindBefore kind_part kind count_part → ((count : ℕ) (rest : List ℕ) → count < 2 ^ 64 → count_part ≡ decimal count ++ (10 ∷ rest) → ⊥) → BeginsWithNoHead text
    no_count kind k none h rest good other = none h.count rest good.small (sym (k.only h.kind _ (behind_name h rest good other)).1)

pub no_tree : (text : List ℕ) → ((rest : List ℕ) → text ≡ codes "tree " ++ rest → ⊥) → BeginsWithNoHead text
no_tree text none h rest good other = none _ (other ∙ right h.name h.kind h.count rest)

-- the first line in front, or none
pub ruleset head_or_none = (head_before, no_tree, no_name, no_kind, no_count)

-- ---- two first lines

pub record AreOneHead (a b : ListingHead) (r s : List ℕ) : Type 0 where
  pub name : a.name ≡ b.name
  pub kind : a.kind ≡ b.kind
  pub count : a.count ≡ b.count
  pub rest : r ≡ s

-- two first lines in front are one where the texts are one
pub heads_apart : (a b : ListingHead) (r s : List ℕ) → IsHead a → IsHead b → head_text a ++ r ≡ head_text b ++ s → AreOneHead a b r s
heads_apart a b r s left right_good same =
    let trees = append_cancel_left tree _ _ (sym (right a.name a.kind a.count r) ∙ (same ∙ right b.name b.kind b.count s)) in
    let names = names_apart a.name b.name _ _ left.named right_good.named trees in
    let kinds = kinds_apart a.kind b.kind _ _ names.1 in
    let counts = numbers_apart a.count b.count (10 ∷ r) (10 ∷ s) kinds.1 left.small right_good.small refl refl in
    let rests : 10 ∷ r ≡ 10 ∷ s = counts.rest in
    record { name = names.0; kind = kinds.0; count = counts.number; rest = cc }

-- ---- a first line is one line

abbrev pub head_words : ListingHead → List ℕ
head_words h = tree ++ (h.name ++ (32 ∷ (kind_text h.kind ++ (32 ∷ decimal h.count))))

pub head_is_line : (h : ListingHead) → head_text h ≡ head_words h ++ (10 ∷ [])
head_is_line h = simp append_assoc

pub number_lacks : (n : ℕ) → n < 2 ^ 64 → HasNoByte 10 (decimal n)
number_lacks n fits = lacked 32 10 (omega arith) (decimal n) (number_is_field n fits)

pub space : ◌≢◌ {A = ℕ} 32 10
space is = absurd (omega (arith, is))

pub head_in_line : (h : ListingHead) → IsHead h → HasNoByte 10 (head_words h)
head_in_line h good =
    lacked_by_both 10 tree _ (lacked 31 10 (omega arith) tree refl)
    (lacked_by_both 10 h.name _ (name_lacks 10 (omega arith) h.name good.named)
    (space, lacked_by_both 10 (kind_text h.kind) _ (kind_lacks 10 (omega arith) h.kind) (space, number_lacks h.count good.small)))
