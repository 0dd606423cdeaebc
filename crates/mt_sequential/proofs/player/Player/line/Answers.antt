use Rattle.mt_sequential.proofs.Prelude.{◌<◌, [], ◌∷◌, length, sym, subst, slice_set, Item, place_within, NamesBelow, Does, read_entry, scan_entries}
use Rattle.mt_sequential.proofs.Removed.{only_read}
use Rattle.mt_sequential.proofs.player.Player.line.Goals as goal

pub returns-in_ok-ask-in-Ask-clause-does : goal.returns-in_ok-ask-in-Ask-clause-does
returns-in_ok-ask-in-Ask-clause-does g c =
    let p = c.self-in-Ask.inside in
    let named : c.in-Ask.tree < length c.args.self.now.trees = subst (NamesBelow (length c.args.self.now.trees)) c.in-Ask.is c.requires.named in
    subst (λ (item : Item). Does c.args.self.now.rows c.args.self.now (record { rows = p.rows; trees = slice_set p.trees.items c.in-Ask.tree c.ask.new.self; entries = c.ask.new.entries.items }) c.args.line.now.number item) (sym c.in-Ask.is)
    (only_read c.args.self.now p.rows c.in-Ask.tree p.trees.items p.entries.items c.ask.new.entries.items c.index_mut-in-Ask.result.now c.ask.new.self (λ x. read_entry c.args.line.now.number x c.in-Ask.query ∷ [])
    c.self-in-Ask.view_is named c.index_mut-in-Ask.ensures.value c.in_ok-ask-in-Ask.ensures.kept c.in_ok-ask-in-Ask.ensures.told)

pub returns-in_ok-scan-in-Scan-clause-does : goal.returns-in_ok-scan-in-Scan-clause-does
returns-in_ok-scan-in-Scan-clause-does g c =
    let p = c.self-in-Scan.inside in
    let named : c.in-Scan.tree < length c.args.self.now.trees = subst (NamesBelow (length c.args.self.now.trees)) c.in-Scan.is c.requires.named in
    subst (λ (item : Item). Does c.args.self.now.rows c.args.self.now (record { rows = p.rows; trees = slice_set p.trees.items c.in-Scan.tree c.scan.new.self; entries = c.scan.new.entries.items }) c.args.line.now.number item) (sym c.in-Scan.is)
    (only_read c.args.self.now p.rows c.in-Scan.tree p.trees.items p.entries.items c.scan.new.entries.items c.index_mut-in-Scan.result.now c.scan.new.self
    (λ x. scan_entries c.args.line.now.number x c.in-Scan.max c.in-Scan.count (place_within c.in-Scan.index c.in-Scan.max)) c.self-in-Scan.view_is named c.index_mut-in-Scan.ensures.value c.in_ok-scan-in-Scan.ensures.kept
    c.in_ok-scan-in-Scan.ensures.told)
