-- The keywords, and the word of each.
-- Source: this project's own, the language of logs.
use Rattle.std.specs.Prelude.{ℕ, List, [], ◌∷◌, Option, codes, find, bytes_eq}
use Rattle.mt_log.specs.declared.keywords.Keyword.{Keyword}
use Rattle.mt_log.specs.declared.keywords.Keyword.TheVariants as keyword

-- each once, in the order in which a word is looked for
abbrev pub keywords : List Keyword
keywords = keyword.Load ∷ keyword.Store ∷ keyword.Find ∷ keyword.Erase ∷ keyword.Insert ∷ keyword.Alloc ∷ keyword.Next ∷ keyword.Prev ∷ keyword.Scan ∷ keyword.Rfind ∷ keyword.Ralloc ∷ keyword.Gap ∷ keyword.Rgap ∷ keyword.StorePre ∷ keyword.Clear ∷ keyword.Lane ∷ keyword.Tree ∷ keyword.Dup ∷ keyword.Check ∷ keyword.Join ∷ []

abbrev pub keyword_text : Keyword → List ℕ
keyword_text keyword.Tree = codes "tree"
keyword_text keyword.Dup = codes "dup"
keyword_text keyword.Check = codes "check"
keyword_text keyword.Lane = codes "lane"
keyword_text keyword.Join = codes "join"
keyword_text keyword.Store = codes "store"
keyword_text keyword.StorePre = codes "pstore"
keyword_text keyword.Insert = codes "insert"
keyword_text keyword.Erase = codes "erase"
keyword_text keyword.Alloc = codes "alloc"
keyword_text keyword.Ralloc = codes "ralloc"
keyword_text keyword.Gap = codes "gap"
keyword_text keyword.Rgap = codes "rgap"
keyword_text keyword.Clear = codes "clear"
keyword_text keyword.Load = codes "load"
keyword_text keyword.Find = codes "find"
keyword_text keyword.Next = codes "next"
keyword_text keyword.Prev = codes "prev"
keyword_text keyword.Rfind = codes "rfind"
keyword_text keyword.Scan = codes "scan"

-- the first of these keywords whose word this is
abbrev pub named : List ℕ → List Keyword → Option Keyword
named word = find (λ k. bytes_eq word (keyword_text k))
