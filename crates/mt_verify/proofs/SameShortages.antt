-- Two shortages of small numbers that print one text have the same numbers.
use Rattle.mt_verify.proofs.Prelude.{◌≡◌, ℕ, List, [], ◌∷◌, ◌++◌, refl, sym, ◌∙◌, decimal, append-nil, Shortage, IsSmallShortage, shortage_printed, AreOneNumber, numbers_apart}

behind_space : (r s : List ℕ) → 32 ∷ r ≡ 32 ∷ s → r ≡ s
behind_space r s same = cc

behind_word : (r s : List ℕ) → 110 ∷ 111 ∷ 109 ∷ 101 ∷ 109 ∷ 32 ∷ r ≡ 110 ∷ 111 ∷ 109 ∷ 101 ∷ 109 ∷ 32 ∷ s → r ≡ s
behind_word r s same = cc

pub same_shortages : (s other : Shortage) → IsSmallShortage s → IsSmallShortage other → shortage_printed s ≡ shortage_printed other → s ≡ record other { by = s.by }
same_shortages s other small small' text =
    let last : List ℕ = decimal s.held in
    let last' : List ℕ = decimal other.held in
    let third : List ℕ = decimal s.live ++ (32 ∷ last) in
    let third' : List ℕ = decimal other.live ++ (32 ∷ last') in
    let second : List ℕ = decimal s.free ++ (32 ∷ third) in
    let second' : List ℕ = decimal other.free ++ (32 ∷ third') in
    let first : decimal s.need ++ (32 ∷ second) ≡ decimal other.need ++ (32 ∷ second') = behind_word (decimal s.need ++ (32 ∷ second)) (decimal other.need ++ (32 ∷ second')) text in
    let a : AreOneNumber s.need other.need (32 ∷ second) (32 ∷ second') = numbers_apart s.need other.need (32 ∷ second) (32 ∷ second') first small.need small'.need refl refl in
    let b : AreOneNumber s.free other.free (32 ∷ third) (32 ∷ third') = numbers_apart s.free other.free (32 ∷ third) (32 ∷ third') (behind_space second second' a.rest) small.free small'.free refl refl in
    let c : AreOneNumber s.live other.live (32 ∷ last) (32 ∷ last') = numbers_apart s.live other.live (32 ∷ last) (32 ∷ last') (behind_space third third' b.rest) small.live small'.live refl refl in
    let ends : decimal s.held ++ [] ≡ decimal other.held ++ [] = append-nil last ∙ (behind_space last last' c.rest ∙ sym (append-nil last')) in
    let d : AreOneNumber s.held other.held [] [] = numbers_apart s.held other.held [] [] ends small.held small'.held tt tt in
    λ i. record { need = a.number i; free = b.number i; live = c.number i; held = d.number i; by = s.by }
