use Rattle.mt_rows.proofs.SlotChild.{replaces_child, replaces_written_child}
use Rattle.mt_rows.proofs.laws.one_store_replaces_a_child.Goals as goal

pub returns-clause-by_words_after : goal.returns-clause-by_words_after
returns-clause-by_words_after c t h k depth slot word row child has stands height at laws = replaces_child t h k depth slot word row child has stands height at laws

pub returns-clause-by_words_before : goal.returns-clause-by_words_before
returns-clause-by_words_before c t h k depth slot word row child has stands height at laws apart =
    let both = replaces_written_child t h k depth slot word row child has stands height at laws apart in
    (both.0, both.1)
