-- What the text of their replies says of the calls of a tree.
-- Source: this project's own.
use Rattle.std.specs.Prelude.{◌≡◌, ℕ, List, [], ◌∷◌, ◌++◌, Some, codes, slice_get}
use Rattle.mt_verify.specs.Prelude.{ToldLine, Shortage}
use Rattle.mt_verify.specs.declared.calls.Numbered.{Numbered}
use Rattle.mt_verify.specs.declared.noted.Heard.{Heard}
use Rattle.mt_verify.specs.declared.noted.Heard.TheVariants.{Reply as Printed, Short}
use Rattle.mt_verify.specs.declared.noted.Noted.{Noted}
use Rattle.mt_verify.specs.Heard.{IsHeard, IsSmallShortage, IsToldShortage}

-- the reply as it is printed, where it does not begin as a refusal for lack of nodes; or the refusal
abbrev pub IsHeardOf : List ToldLine → ℕ → Numbered → Heard → Type 0
IsHeardOf told tree call (Printed bytes) = (bytes.now ≡ call.reply.now)
    × ((rest : List ℕ) → call.reply.now ≡ codes "nomem " ++ rest → ⊥)
IsHeardOf told tree call (Short s) = IsHeard told tree call s × IsSmallShortage s

pub record IsNotedOf (told : List ToldLine) (tree : ℕ) (call : Numbered) (n : Noted) : Type 0 where
  pub lane : n.lane ≡ call.lane
  pub call_is : n.call ≡ call.call
  pub heard : IsHeardOf told tree call n.heard

-- these calls are heard so, one by one
abbrev pub AreNotedOf : List ToldLine → ℕ → List Numbered → List Noted → Type 0
AreNotedOf told tree [] [] = Unit {0}
AreNotedOf told tree [] (n ∷ noted) = ⊥
AreNotedOf told tree (call ∷ calls) [] = ⊥
AreNotedOf told tree (call ∷ calls) (n ∷ noted) = IsNotedOf told tree call n × AreNotedOf told tree calls noted

-- no refusal because nodes are short can have this text
abbrev pub IsMisheard : List ToldLine → ℕ → Numbered → Type 0
IsMisheard told tree call = ((rest : List ℕ) × (call.reply.now ≡ codes "nomem " ++ rest))
    × ((s : Shortage) → IsSmallShortage s → IsToldShortage told tree call s → ⊥)

pub record SomeMisheard (told : List ToldLine) (tree : ℕ) (calls : List Numbered) : Type 0 where
  pub place : ℕ
  pub call : Numbered
  pub is : slice_get calls place ≡ Some call
  pub misheard : IsMisheard told tree call
