-- Demand 3: what must hold of the log and of the messages handed out at the end of every run of the bench.
use Rattle.std.specs.Prelude.{ℕ, ◌+◌, ◌≤◌, Bool, true, false, not, List, [], ◌∷◌, ◌++◌, map, ◌≡◌, Ok, length, drop, replicate}
use Rattle.words.specs.Lists.{both, same_bytes, Each}
use Rattle.packet.specs.Packet.{check_of, seal, marked}
use Rattle.packet.specs.declared.Head.{Head}
use Rattle.framer.specs.Framer.{hearing}
use Rattle.sender.specs.Sender.{waits}
use Rattle.sender.specs.Pieces.{packets_of}
use Rattle.reader.specs.Reader.{ReaderState}
use Rattle.bench.specs.Bench.{Fate, whole, lost, spoiled, Try, Tried, Ending, delivered, failed, out, Begun, Message, Bench}

-- The reader at the start: nothing out, nothing begun on its line and not deaf. Its parameters are any; handshaking need not be on.
pub record Ready (r : ReaderState) : Type 0 where
  pub nothing_out_lem : waits r.core.sender ≡ false
  pub idle : r.line ≡ hearing []

-- Spoiled bytes of which no part passes the packet check, wherever it begins.
pub record NoPart (bytes : List ℕ) : Type 0 where
  pub none : (k : ℕ) (head : Head) → check_of (drop k bytes) ≡ Ok head → ⊥

-- ---- no two neighbouring packets are equal

-- Packets and message gaps in the order of the line, the latest first.
pub data OnLine : Type 0 where
  sent : List ℕ → OnLine
  gap : OnLine

unfoldable pub gap_of : Bool → List OnLine
gap_of true = gap ∷ []
gap_of false = []

unfoldable pub on_line : List Begun → List OnLine
on_line [] = []
on_line (m ∷ ms) = map (λ (p : Tried). sent p.body) m.packets ++ (gap_of m.gap ++ on_line ms)

-- No packet is equal to the one before it, unless a message gap came between. Bodies stand here without their resend mark. This is a theorem of
-- every line that the sender keeps (`line_apart`), not a condition.
unfoldable pub apart : List OnLine → Bool
apart [] = true
apart (gap ∷ xs) = apart xs
apart (sent p ∷ []) = true
apart (sent p ∷ gap ∷ xs) = apart xs
apart (sent p ∷ sent q ∷ xs) = both (not (same_bytes p q)) (apart (sent q ∷ xs))

-- ---- what the demand promises

abbrev pub message_of : Begun → Message
message_of m = record { code = m.code; bytes = m.bytes }

-- In order and once each: every message that ended delivered, with at most some that failed or are still out.
pub data HandsOut : List Begun → List Message → Type 0 where
  nothing : HandsOut [] []
  handed : {m : Begun} {ms : List Begun} {x : Message} {xs : List Message} → x ≡ message_of m → HandsOut ms xs → HandsOut (m ∷ ms) (x ∷ xs)
  passed_over : {m : Begun} {ms : List Begun} {xs : List Message} → (m.ending ≡ delivered → ⊥) → HandsOut ms xs → HandsOut (m ∷ ms) xs

-- No packet is sent more than three times. Its copies, the latest first: at most two with the resend mark, and the first one written, which
-- is the packet without it. All of them were tried, but for so many that still wait.
pub record Thrice (waiting : ℕ) (p : Tried) : Type 0 where
  pub again : ℕ
  pub few : again ≤ 2
  pub copies_are : p.copies ≡ replicate again (seal (marked p.body)) ++ (seal p.body ∷ [])
  pub tried : length p.copies ≡ waiting + length p.tries

-- While a message is out, one copy waits, of its latest packet.
unfoldable pub waiting_at : Ending → ℕ
waiting_at delivered = 0
waiting_at failed = 0
waiting_at out = 1

pub data EachThrice (x : Ending) : List Tried → Type 0 where
  from_latest : {p : Tried} {ps : List Tried} → Thrice (waiting_at x) p → Each (Thrice 0) ps → EachThrice x (p ∷ ps)

-- Spoiled or lost, going or coming back.
unfoldable pub arrived : Fate → Bool
arrived whole = true
arrived lost = false
arrived (spoiled bytes) = false

abbrev pub Bad : Try → Type 0
Bad t = both (arrived t.going) (arrived t.coming) ≡ false

-- A message fails only where all three tries of one packet, its latest, were bad.
pub data LostOut : List Tried → Type 0 where
  three : {p : Tried} {ps : List Tried} → length p.tries ≡ 3 → Each Bad p.tries → LostOut (p ∷ ps)

pub record Honest (m : Begun) : Type 0 where
  pub thrice : EachThrice m.ending m.packets
  pub lost_out : m.ending ≡ failed → LostOut m.packets

-- Besides, the packets sent are the message's, in order, and all of them where it was delivered.
unfoldable pub in_order : List Tried → List (List ℕ) → List (List ℕ)
in_order [] rest = rest
in_order (p ∷ ps) rest = in_order ps (p.body ∷ rest)

pub record Sends (m : Begun) : Type 0 where
  pub rest : List (List ℕ)
  pub are : in_order m.packets rest ≡ packets_of m.code m.bytes
  pub all_of : m.ending ≡ delivered → rest ≡ []

pub record Delivers (b : Bench) : Type 0 where
  pub hands_out_lem : HandsOut b.sheet.log b.handed
  pub honest : Each Honest b.sheet.log
  pub sends : Each Sends b.sheet.log
  pub nothing_else : b.stray ≡ []
