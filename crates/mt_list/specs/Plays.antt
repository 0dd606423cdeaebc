-- Calls made on a map one after another, and their replies. Source: this project's own.
use Rattle.std.specs.Prelude.{◌≡◌, Bool, true, false, List, [], ◌∷◌, Option}
use Rattle.mt_base.specs.declared.ranges.Range.{Range}
use Rattle.mt_base.specs.declared.kinds.Kind.{Kind}
use Rattle.mt_base.specs.declared.calls.Call.{Call}
use Rattle.mt_base.specs.declared.replies.Reply.{Reply}
use Rattle.mt_base.specs.declared.replies.Reply.TheVariants.{NoNodes}
use Rattle.mt_base.specs.Nodes.{Limits, IsMade, one_call_more}

-- the call was not refused for lack of nodes
abbrev pub is_done : Reply → Bool
is_done (NoNodes shortage) = false
is_done reply = true

-- from this map the calls lead to that one, and are answered so
abbrev pub CallsLeadTo : Kind → Option Limits → List Range → List Call → List Range → List Reply → Type 0
CallsLeadTo kind limits m [] end [] = end ≡ m
CallsLeadTo kind limits m [] end (reply ∷ replies) = ⊥
CallsLeadTo kind limits m (call ∷ calls) end [] = ⊥
CallsLeadTo kind limits m (call ∷ calls) end (reply ∷ replies) = (next : List Range) × (IsMade kind limits m call next reply × CallsLeadTo kind (one_call_more limits) next calls end replies)
