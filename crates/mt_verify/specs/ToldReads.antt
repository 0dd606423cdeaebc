-- Which lines of a text report calls and which reads, how many, and the reads of a lane with their numbers.
-- Source: this project's own.
use Rattle.std.specs.Prelude.{ℕ, ◌==◌, ◌&&◌, Bool, true, false, List, [], ◌∷◌, Option, Some, None, nat_lt, length, map, if◌then◌else◌}
use Rattle.std.specs.List.{cons_option, filter}
use Rattle.mt_verify.specs.Prelude.{ToldLine, What, Wrote, Got, Copied, Lawful}
use Rattle.mt_verify.specs.declared.looks.ToldRead.{ToldRead}

abbrev pub is_wrote : What → Bool
is_wrote (Wrote number call reply) = true
is_wrote (Got lo hi query answer) = false
is_wrote (Copied count) = false
is_wrote (Lawful count) = false

-- how many calls on a tree the text reports in earlier phases
abbrev pub calls_of_phases_before : List ToldLine → ℕ → ℕ → ℕ
calls_of_phases_before told tree phase = length (filter (λ t. (t.tree == tree) && (nat_lt t.phase phase && is_wrote t.what)) told)

-- of the numbers of reads that of this line, and those of the lines after it
abbrev pub number_for : What → List ℕ → ℕ
number_for (Got lo hi query told) (k ∷ points) = k
number_for what points = 0

abbrev pub numbers_behind : What → List ℕ → List ℕ
numbers_behind (Got lo hi query told) (k ∷ points) = points
numbers_behind what points = points

-- ---- the reads of a lane on a tree, with their numbers

abbrev pub read_by : What → ℕ → Option (ToldRead × ℕ)
read_by (Wrote number call reply) k = None
read_by (Got lo hi query told) k = Some (record { lo = lo; hi = hi; query = query; told = told }, k)
read_by (Copied count) k = None
read_by (Lawful count) k = None

abbrev pub read_in : ℕ → ℕ → ℕ → ToldLine → Option (ToldRead × ℕ)
read_in tree lane k t = if t.tree == tree then (if t.lane == lane then read_by t.what k else None) else None

abbrev pub reads_told : ℕ → ℕ → List ToldLine → List ℕ → List (ToldRead × ℕ)
reads_told tree lane [] points = []
reads_told tree lane (t ∷ told) points =
    cons_option (read_in tree lane (number_for t.what points) t)
    (reads_told tree lane told (numbers_behind t.what points))

-- the numbers of the reads of a lane on a tree
abbrev pub own_points : ℕ → ℕ → List ToldLine → List ℕ → List ℕ
own_points tree lane told points = map (λ (r : ToldRead × ℕ). r.1) (reads_told tree lane told points)

-- how many of these lines are reads
abbrev pub is_got : What → Bool
is_got (Got lo hi query told) = true
is_got (Wrote number call reply) = false
is_got (Copied count) = false
is_got (Lawful count) = false

abbrev pub reads_count : List ToldLine → ℕ
reads_count told = length (filter (λ t. is_got t.what) told)
