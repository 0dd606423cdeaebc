use Rattle.mt_base.proofs.SearchesWhole.{none_is_lower, none_is_higher}
use Rattle.mt_base.proofs.laws.a_search_finds_the_lowest_or_the_highest.Goals as goal

pub returns-clause-lowest : goal.returns-clause-lowest
returns-clause-lowest c = none_is_lower

pub returns-clause-highest : goal.returns-clause-highest
returns-clause-highest c = none_is_higher
