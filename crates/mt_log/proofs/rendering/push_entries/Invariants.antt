use Rattle.mt_log.proofs.Prelude.{◌≡◌, ◌++◌, take, flat_map, entry_text}
use Rattle.mt_log.proofs.rendering.push_entries.Given as goal

abbrev pub invariant-loop-entry : goal.invariant-loop-entry
invariant-loop-entry l = l.text.items ≡ l.fn.text.items ++ flat_map (entry_text l.fn.version) (take l.entry-index l.entries)
