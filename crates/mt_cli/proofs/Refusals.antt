-- Lists of kinds of error that are not empty.
use Rattle.mt_cli.proofs.Prelude.{◌≡◌, [], ◌∷◌, refl, Kinds, or_else}

-- there is a kind
abbrev pub IsRefused : Kinds → Type 0
IsRefused [] = ⊥
IsRefused (kind ∷ kinds) = Unit {0}

pub refused_first : (first second : Kinds) → IsRefused first → IsRefused (or_else first second)
refused_first [] second refused = absurd refused
refused_first (kind ∷ kinds) second refused = tt

pub refused_second : (first second : Kinds) → IsRefused second → IsRefused (or_else first second)
refused_second [] second refused = refused
refused_second (kind ∷ kinds) second refused = tt

pub or_else_nested : (first second third : Kinds) → or_else (or_else first second) third ≡ or_else first (or_else second third)
or_else_nested [] second third = refl
or_else_nested (kind ∷ kinds) second third = refl

pub or_else_none : (kinds : Kinds) → or_else kinds [] ≡ kinds
or_else_none [] = refl
or_else_none (kind ∷ kinds) = refl
