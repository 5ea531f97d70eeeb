-- What emitting messages gives (PROTOCOL, "Output layout" and refusal 5), and the sections that it goes by.
use Rattle.std.specs.Prelude.{ℕ, ◌+◌, cond, List, [], ◌∷◌, leb, length, Some, None, Option}
use Rattle.outgoing.specs.Outgoing.{render}
use Rattle.outgoing.specs.Layout.{Mail, Formats, layout}
use Rattle.sections.specs.Sections.{put_in, added, outcome_bytes}
use Rattle.sections.specs.declared.Section.{Section}

-- how many bytes were written, or NO ROOM: the output needed is longer than the output lent
abbrev pub answer : ℕ → ℕ → Option ℕ
answer size room = cond (leb size room) (Some size) None

abbrev pub emitted : Formats → List Mail → List ℕ → Option ℕ
emitted fs ms old = answer (length (layout fs ms)) (length old)

-- the output after: the layout, and the bytes beyond its count as they were; all bytes as they were where there is no room
abbrev pub emitted_bytes : Formats → List Mail → List ℕ → List ℕ
emitted_bytes fs ms old = outcome_bytes (layout fs ms) old

-- how many bytes messages add to an output, each with its entry: emit takes the size first, 2 bytes of count and these
unfoldable pub added_by : Formats → List Mail → ℕ
added_by fs [] = 0
added_by fs (m ∷ ms) = added (render (fs m.to) m.message) + added_by fs ms

-- what a message puts into a section: emit writes the entries, then the bodies
unfoldable pub section : Formats → Section → Mail → List ℕ
section fs s m = put_in s m.to (render (fs m.to) m.message)
