-- A step's output as a host reads it (PROTOCOL, "Output layout"), and not as the hub writes it: neither `layout` nor its parts stand here.
-- proofs/Contents.antt proves that a host reads what the hub was to send: the receivers and the messages' bytes, in their order.
use Rattle.std.specs.Prelude.{ℕ, zero, suc, ◌+◌, ◌*◌, ◌<◌, List, [], ◌∷◌, length}
use Rattle.seq.specs.Bytes.{byte_at, number16, part}
use Rattle.seq.specs.Lists.{All}
use Rattle.outgoing.specs.Outgoing.{render}
use Rattle.outgoing.specs.Layout.{Mail, Formats}

-- a message's bytes, and the slot that they go to
pub record Content : Type 0 where
  pub to : ℕ
  pub bytes : List ℕ

-- n messages: the entry of the first stands at `entry`, its bytes from `body` on; of the next, 3 bytes on and behind these bytes
unfoldable pub contents_from : List ℕ → ℕ → ℕ → ℕ → List Content
contents_from s zero entry body = []
contents_from s (suc n) entry body =
    let past = body + number16 s (entry + 1) in
    record { to = byte_at s entry; bytes = part body past s } ∷ contents_from s n (entry + 3) past

-- the number of messages stands in the first 2 bytes, and 3 bytes for each before the first message
unfoldable pub contents : List ℕ → List Content
contents s = contents_from s (number16 s 0) 2 (2 + 3 * number16 s 0)

-- how many bytes the messages have in all
unfoldable pub total : List Content → ℕ
total [] = 0
total (c ∷ cs) = length c.bytes + total cs

-- what was to be sent
abbrev pub content : Formats → Mail → Content
content formats m = record { to = m.to; bytes = render (formats m.to) m.message }

-- one byte holds each receiver, and two each length and the number of messages. (Every step's mails are such: words/specs/Meaning.antt)
pub record Writable (formats : Formats) (ms : List Mail) : Type 0 where
  pub receivers : All (λ m. m.to < 256) ms
  pub lengths : All (λ m. length (render (formats m.to) m.message) < 65536) ms
  pub count : length ms < 65536
