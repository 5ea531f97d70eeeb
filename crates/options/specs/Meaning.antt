-- What the options that were read mean.
use Rattle.std.specs.Prelude.{ℕ, ◌+◌, ◌-◌, List, ◌++◌, Bool, length, take, set, replicate, Option, Some, None}
use Rattle.options.specs.Audience.{Audience, most_ids}
use Rattle.options.specs.Audience as A
use Rattle.options.specs.declared.OptionValue.{OptionValue}
use Rattle.options.specs.declared.OptionValue.TheVariants.{Absent, Given, Wrong}
use Rattle.options.specs.declared.Ids.{Ids}
use Rattle.options.specs.declared.Options.{Options}

abbrev pub flag_meant : OptionValue Bool → A.OptionValue Bool
flag_meant Absent = A.Absent
flag_meant (Given b) = A.Given b
flag_meant Wrong = A.Wrong

-- the IDs before a count
abbrev pub ids_before : Ids → List ℕ
ids_before l = take l.count l.ids

abbrev pub ids_meant : OptionValue Ids → A.OptionValue (List ℕ)
ids_meant Absent = A.Absent
ids_meant (Given l) = A.Given (ids_before l)
ids_meant Wrong = A.Wrong

-- the same of a list that is given
abbrev pub list_meant : Option Ids → A.OptionValue (List ℕ)
list_meant (Some l) = A.Given (ids_before l)
list_meant None = A.Wrong

abbrev pub audience_of : Options → Audience
audience_of o = record { exclude_me = flag_meant o.publisher; exclude = ids_meant o.exclude; eligible = ids_meant o.eligible }

-- ---- the same as the code holds them
abbrev pub no_ids : Ids
no_ids = record { count = 0; ids = replicate most_ids 0 }

-- IDs in an array of 8, and zeros past the last
abbrev pub held_ids : List ℕ → Ids
held_ids ns = record { count = length ns; ids = ns ++ replicate (most_ids - length ns) 0 }

-- with one ID more
abbrev pub pushed : Ids → ℕ → Ids
pushed l id = record { count = l.count + 1; ids = set l.ids l.count id }
