-- Words at the front of a text stand there in one way.
use Rattle.mt_told.proofs.Prelude.{◌≡◌, ◌≢◌, ℕ, suc, ◌+◌, ◌-◌, ◌<◌, ◌≤◌, Bool, true, false, List, [], ◌∷◌, ◌++◌, Some, None, codes, length, get_or, take, drop, refl, sym, ap, ◌∙◌, inl, inr, arith, true≢false, ◌==◌, nat_lt, position, if◌then◌else◌, position_or_len, bytes_eq, and_parts, cases_lt, eqb-true, lt-ltb, ltb-true, drop_more, get_or-take, get_or_at, length-append, length-take, take-append-drop, take_rest, position-Some, fails_before_first, bytes_eq-Decides, Kind, kind_text, is_name, are_above, name_is_field, IsKindBefore, IsNameBefore, IsWordBefore, HasNoByte, eq-eqb}
use Rattle.mt_base.specs.declared.kinds.Kind.TheVariants as kinds

cons_is : (a b : ℕ) (xs ys : List ℕ) → a ≡ b → xs ≡ ys → a ∷ xs ≡ b ∷ ys
cons_is a b xs ys first rest = cc

-- ---- a byte that ends words

-- two words that lack the byte behind them are one where the texts are one
pub apart : (c : ℕ) (a b r s : List ℕ) → HasNoByte c a → HasNoByte c b → a ++ (c ∷ r) ≡ b ++ (c ∷ s) → (a ≡ b) × (r ≡ s)
apart c [] [] r s left right same = (refl, cc)
apart c [] (y ∷ b) r s left right same = let first : y ≡ c = (cc) in absurd (right.0 first)
apart c (x ∷ a) [] r s left right same = let first : x ≡ c = (cc) in absurd (left.0 first)
apart c (x ∷ a) (y ∷ b) r s left right same =
    let first : x ≡ y = (cc) in
    let more : a ++ (c ∷ r) ≡ b ++ (c ∷ s) = (cc) in
    let rest = apart c a b r s left.1 right.1 more in
    (cons_is x y a b first rest.0, rest.1)

-- bytes above lack it
pub lacked : (least c : ℕ) → c ≤ least → (bytes : List ℕ) → are_above least bytes ≡ true → HasNoByte c bytes
lacked least c below [] above = tt
lacked least c below (b ∷ bytes) above =
    let parts = and_parts (nat_lt least b) (are_above least bytes) above in
    let higher : least < b = ltb-true least b parts.0 in
    ((λ is. absurd (omega (arith, is, higher, below))), lacked least c below bytes parts.1)

pub lacked_by_both : (c : ℕ) (a b : List ℕ) → HasNoByte c a → HasNoByte c b → HasNoByte c (a ++ b)
lacked_by_both c [] b left right = right
lacked_by_both c (x ∷ a) b left right = (left.0, lacked_by_both c a b left.1 right)

-- ---- the first such byte

module _ (c : ℕ) where
  abbrev is_it : ℕ → Bool
  is_it byte = byte == c

  lacks_from : (bytes : List ℕ) → ((k : ℕ) → k < length bytes → get_or bytes k 0 ≢ c) → HasNoByte c bytes
  lacks_from [] none = tt
  lacks_from (byte ∷ bytes) none = (none 0 (omega arith), lacks_from bytes (λ k within. none (suc k) (omega arith)))

  -- none stands before it
  pub lacks_before : (text : List ℕ) (end : ℕ) → position is_it text ≡ Some end → HasNoByte c (take end text)
  lacks_before text end is =
      let at = position-Some is_it text end 0 is in
      lacks_from (take end text) (λ k within here.
      let before : k < end = omega (arith, length-take end text, within) in
      let misses : is_it (get_or text k 0) ≡ false = at.2 k before in
      let byte : get_or text k 0 ≡ c = sym (get_or-take end text k 0 before) ∙ here in
      let hit : is_it (get_or text k 0) ≡ true = ap is_it byte ∙ eq-eqb c c refl in
      (cc))

  -- what is before it, and what is behind it
  pub parted_at : (text : List ℕ) (end : ℕ) → position is_it text ≡ Some end → text ≡ take end text ++ (c ∷ take (length text - (end + 1)) (drop (end + 1) text))
  parted_at text end is =
      let at = position-Some is_it text end 0 is in
      let byte : get_or text end 0 ≡ c = eqb-true (get_or text end 0) c at.1 in
      let rest : List ℕ = take (length text - (end + 1)) (drop (end + 1) text) in
      let behind : rest ≡ drop (end + 1) text = take_rest text (end + 1) in
      let more : drop end text ≡ get_or text end 0 ∷ drop (end + 1) text = drop_more text end 0 at.0 in
      let tail : drop end text ≡ c ∷ rest = more ∙ cons_is (get_or text end 0) c (drop (end + 1) text) rest byte (sym behind) in
      sym (take-append-drop end text) ∙ ap (λ (t : List ℕ). take end text ++ t) tail

  none_is : (text : List ℕ) (k : ℕ) → position is_it text ≡ None → k < length text → is_it (get_or text k 0) ≡ false
  none_is text k none within =
      elim (cases_lt (position_or_len is_it text) (length text)) [
        | inl lt ↦ let some = rw (lt-ltb (position_or_len is_it text) (length text) lt) at none in absurd (cc)
        | inr ge ↦ fails_before_first is_it text k 0 (omega arith)
      ]

  -- where there is none, nothing stands before it
  pub none_parts : (text front rest : List ℕ) → position is_it text ≡ None → text ≡ front ++ c ∷ rest → ⊥
  none_parts text front rest none is =
      let within : length front < length text = omega (arith, ap length is, length-append front (c ∷ rest)) in
      let misses : is_it (get_or text (length front) 0) ≡ false = none_is text (length front) none within in
      let byte : get_or text (length front) 0 ≡ c = ap (λ (t : List ℕ). get_or t (length front) 0) is ∙ get_or_at front c rest 0 (length front) refl in
      let hit : is_it (get_or text (length front) 0) ≡ true = ap is_it byte ∙ eq-eqb c c refl in
      (cc)

-- ---- the first space

pub word_before : (text : List ℕ) (end : ℕ) → position (λ byte. byte == 32) text ≡ Some end → IsWordBefore text (take end text) (take (length text - (end + 1)) (drop (end + 1) text))
word_before text end is = record { printed = parted_at 32 text end is; spaceless = lacks_before 32 text end is }

pub no_space : (text word rest : List ℕ) → position (λ byte. byte == 32) text ≡ None → text ≡ word ++ 32 ∷ rest → ⊥
no_space = none_parts 32

-- ---- names

pub name_lacks : (c : ℕ) → c ≤ 32 → (name : List ℕ) → is_name name ≡ true → HasNoByte c name
name_lacks c below name named = lacked 32 c below name (name_is_field name named)

pub names_apart : (a b r s : List ℕ) → is_name a ≡ true → is_name b ≡ true → a ++ (32 ∷ r) ≡ b ++ (32 ∷ s) → (a ≡ b) × (r ≡ s)
names_apart a b r s left right same = apart 32 a b r s (name_lacks 32 (omega arith) a left) (name_lacks 32 (omega arith) b right) same

pub name_before : (text word name rest : List ℕ) → IsWordBefore text word rest → is_name word ≡ true → name ≡ word → IsNameBefore text name rest
name_before text word name rest front good is =
    let named : is_name name ≡ true = ap is_name is ∙ good in
    let printed : text ≡ name ++ (32 ∷ rest) = front.printed ∙ ap (λ (w : List ℕ). w ++ (32 ∷ rest)) (sym is) in
    record {
      named = named;
      printed = printed;
      only = λ other r other_good same. names_apart other name r rest other_good named (sym same ∙ printed);
    }

pub no_name : (text word rest : List ℕ) → IsWordBefore text word rest → ¬ (is_name word ≡ true) → (name r : List ℕ) → is_name name ≡ true → text ≡ name ++ (32 ∷ r) → ⊥
no_name text word rest front bad name r good is =
    let same : name ≡ word = (apart 32 name word r rest (name_lacks 32 (omega arith) name good) front.spaceless (sym is ∙ front.printed)).0 in
    bad (ap is_name (sym same) ∙ good)

-- ---- kinds

-- the kind of a text
abbrev named_by : List ℕ → Kind
named_by text =
    if bytes_eq text (codes "range") then kinds.Range
    else (if bytes_eq text (codes "alloc") then kinds.Alloc
    else (if bytes_eq text (codes "range32") then kinds.Range32 else kinds.Alloc32))

named_by_text : (kind : Kind) → named_by (kind_text kind) ≡ kind
named_by_text kinds.Range = refl
named_by_text kinds.Alloc = refl
named_by_text kinds.Range32 = refl
named_by_text kinds.Alloc32 = refl

kind_above : (kind : Kind) → are_above 32 (kind_text kind) ≡ true
kind_above kinds.Range = refl
kind_above kinds.Alloc = refl
kind_above kinds.Range32 = refl
kind_above kinds.Alloc32 = refl

pub kind_lacks : (c : ℕ) → c ≤ 32 → (kind : Kind) → HasNoByte c (kind_text kind)
kind_lacks c below kind = lacked 32 c below (kind_text kind) (kind_above kind)

pub kinds_apart : (a b : Kind) (r s : List ℕ) → kind_text a ++ (32 ∷ r) ≡ kind_text b ++ (32 ∷ s) → (a ≡ b) × (r ≡ s)
kinds_apart a b r s same =
    let parts = apart 32 (kind_text a) (kind_text b) r s (kind_lacks 32 (omega arith) a) (kind_lacks 32 (omega arith) b) same in
    (sym (named_by_text a) ∙ (ap named_by parts.0 ∙ named_by_text b), parts.1)

not_this : (word text : List ℕ) → bytes_eq word text ≡ false → word ≡ text → ⊥
not_this word text differs is = true≢false (sym ((bytes_eq-Decides word text).1 is) ∙ differs)

pub no_kind_named : (word : List ℕ) → bytes_eq word (codes "range") ≡ false → bytes_eq word (codes "alloc") ≡ false → bytes_eq word (codes "range32") ≡ false → bytes_eq word (codes "alloc32") ≡ false
    → (kind : Kind) → word ≡ kind_text kind → ⊥
no_kind_named word range alloc range32 alloc32 kinds.Range is = not_this word (codes "range") range is
no_kind_named word range alloc range32 alloc32 kinds.Alloc is = not_this word (codes "alloc") alloc is
no_kind_named word range alloc range32 alloc32 kinds.Range32 is = not_this word (codes "range32") range32 is
no_kind_named word range alloc range32 alloc32 kinds.Alloc32 is = not_this word (codes "alloc32") alloc32 is

pub kind_before : (text word rest : List ℕ) (kind : Kind) → IsWordBefore text word rest → word ≡ kind_text kind → IsKindBefore text kind rest
kind_before text word rest kind front is =
    let printed : text ≡ kind_text kind ++ (32 ∷ rest) = front.printed ∙ ap (λ (w : List ℕ). w ++ (32 ∷ rest)) is in
    record {
      printed = printed;
      only = λ other r same. kinds_apart other kind r rest (sym same ∙ printed);
    }

pub no_kind : (text word rest : List ℕ) → IsWordBefore text word rest → ((kind : Kind) → word ≡ kind_text kind → ⊥) → (kind : Kind) (r : List ℕ) → text ≡ kind_text kind ++ (32 ∷ r) → ⊥
no_kind text word rest front none kind r is =
    none kind (sym (apart 32 (kind_text kind) word r rest (kind_lacks 32 (omega arith) kind) front.spaceless (sym is ∙ front.printed)).0)
