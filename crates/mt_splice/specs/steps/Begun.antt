-- What a replacement begins with if no entry gives it: no nodes and the empty tree.
-- Source: this project's own.
use Rattle.std.specs.Prelude.{false, [], None}
use Rattle.mt_base.specs.declared.kinds.Kind.TheVariants as trees
use Rattle.mt_splice.specs.Prelude.{kind_width, Rooted, Sheet, tree_as}
use Rattle.mt_splice.specs.steps.Ledgers.{Before}
use Rattle.mt_splice.specs.steps.Starts.{Start}

abbrev pub no_tree : Rooted
no_tree = record { rows = 0; table = record { width = kind_width trees.Range; words = [] }; root = 0 }

abbrev pub no_sheet : Sheet
no_sheet = record {
  tree = no_tree;
  ended = 0;
  in_flight = false;
  published = false;
  lives = [];
  buried = [];
  opened = 0;
  cleared = 0;
  shared = false;
  scan = record { least = 0; by = None };
  scans = 0;
  reads = None;
  kind = None;
  told = None;
}

abbrev pub no_before : Before
no_before = record { sheet = no_sheet; book = record { rows = 0; free = []; held = [] }; kind = trees.Range; number = 0 }

abbrev pub no_start : Start
no_start = record { tree = tree_as trees.Range no_tree; height = 0; map = []; first = 0; last = 0 }
