-- What is asked for by words, and what the statuses mean.
-- Source: this project's own.
use Rattle.std.specs.Prelude.{ℕ, List, [], ◌∷◌, ◌++◌, Option, Some, None, codes, if◌then◌else◌, bytes_eq}
use Rattle.mt_draw.specs.Prelude.{error_text, ImageError}
use Rattle.mt_image.specs.declared.errors.ImageError.TheVariants as errors
use Rattle.mt_draw.specs.declared.forms.PictureForm.{PictureForm}
use Rattle.mt_draw.specs.declared.forms.PictureForm.TheVariants as forms
use Rattle.mt_draw.specs.declared.failures.DrawFailure.{DrawFailure}
use Rattle.mt_draw.specs.declared.failures.DrawFailure.TheVariants.{NoImage, Usage, ReadFault, WriteFault, NoMemory}

abbrev pub form_of_word : List ℕ → Option PictureForm
form_of_word word =
    if bytes_eq word (codes "--help") then Some forms.Help
    else (if bytes_eq word (codes "--text") then Some forms.Text
    else (if bytes_eq word (codes "--ranges") then Some forms.Ranges
    else None))

-- no word asks for the picture of the nodes, and one word for what it says
abbrev pub form_asked : List (List ℕ) → Option PictureForm
form_asked [] = Some forms.Rows
form_asked (word ∷ []) = form_of_word word
form_asked (word ∷ other ∷ words) = None

abbrev pub status_of : DrawFailure → ℕ
status_of (NoImage error) = 1
status_of Usage = 2
status_of ReadFault = 3
status_of WriteFault = 4
status_of NoMemory = 5

-- why nothing is drawn where no image is read
abbrev pub failure_of_image : ImageError → DrawFailure
failure_of_image (errors.Length want got) = NoImage (errors.Length want got)
failure_of_image (errors.Head at) = NoImage (errors.Head at)
failure_of_image (errors.Broken row law) = NoImage (errors.Broken row law)
failure_of_image (errors.Stray row) = NoImage (errors.Stray row)
failure_of_image errors.NoMemory = NoMemory

-- the line that reports it, after the program's name
abbrev pub failure_text : DrawFailure → List ℕ
failure_text (NoImage error) = codes "no image: " ++ error_text error
failure_text Usage = codes "usage: mt_draw [--text | --ranges] < IMAGE"
failure_text ReadFault = codes "read fault"
failure_text WriteFault = codes "write fault"
failure_text NoMemory = codes "out of memory"
