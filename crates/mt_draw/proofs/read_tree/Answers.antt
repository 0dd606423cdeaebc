use Rattle.mt_draw.proofs.Prelude.{arith, sheet_in, AreBytes, read_is_good}
use Rattle.mt_draw.proofs.read_tree.Goals as goal

pub of-requires : goal.of-requires
of-requires c =
    let bytes : AreBytes c.args.bytes.now = λ i. let fits = c.type_inv.bytes i in omega (arith, fits) in
    record { good = read_is_good c.args.bytes.now (record { kind = c.in_ok-kind.kind; tree = (sheet_in c.in_ok-kind.rows).tree }) bytes c.in_ok-kind.ensures.ok }
