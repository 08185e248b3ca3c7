-- Each exported call's contract allows one outcome only: what is told, the values, and every byte that was lent. Assumes nothing.
use Prim.Native.Nat.{ℕ}
use mathlib.Core.Path.{◌≡◌, refl, sym, ap, ◌∙◌}
use mathlib.Core.Bool.{Bool, true, false}
use mathlib.Core.List.{List, [], ◌∷◌}
use mathlib.Core.Logic.{◌⊎◌, inl, inr, ⊎_elim}
use lib.Dec.{eqb, ltb}
use lib.ListN.{length}
use borrow.Author.Tests.{ltb-true, ltb-false}
use Rattle.std.proofs.Common.{Result}
use Rattle.packet.specs.Packet.{size_of}
use Rattle.packet.specs.declared.Head.{Head}
use Rattle.packet.specs.declared.Refusal.{Refusal}
use Rattle.words.specs.Lists.{pick, over}
use Rattle.packet.proofs.Unique as packet
use Rattle.framer.proofs.Unique as framing
use Rattle.framer.specs.declared.Framed.{Framed}
use Rattle.framer.specs.declared.Going.{Going}
use Rattle.framer.specs.declared.Going.TheVariants.{On, Woken, Left}
use Rattle.hub.proofs.Unique as joining
use Rattle.hub.specs.declared.Taken.{Taken}
use Rattle.hub.specs.Block.{Block}
use Rattle.sender.proofs.Unique as sending
use Rattle.sender.specs.declared.Sending.{Sending}
use Rattle.sender.specs.declared.Outcome.{Outcome}
use Rattle.table.proofs.Unique as settings
use Rattle.saved.proofs.Unique as saved
use Rattle.reader.proofs.Unique as reading
use Rattle.reader.specs.declared.Reader.{Reader}
use Rattle.reader.specs.declared.Taken.{Taken as Commanded}
use Rattle.reader.specs.declared.Started.{Started}
use Rattle.reader.specs.Promises.{left_of}
use Rattle.motikhund.specs.Lent.{Need, at_least, Lacking, here, there, Enough, none, more, Asks, IfNamed, KeptUnless, Kept, Made}
use Rattle.motikhund.specs.Control.{flag_byte, reader_in, permanent_changed}
use Rattle.motikhund.specs.Numbers.{result_number, is_err, checked_values, heard_number, found_number, found_values, hub_number, hub_values, block_values, outcome_number, outcome_value, start_values, is_refused, waits_number, reader_number, reader_values}
use Rattle.motikhund.specs.Tables.{SetsTable, DefaultsTable, PowersUpTable, TakesOut, PutsBack}
use Rattle.motikhund.specs.declared.tables.MkTable.{MkTable}
use Rattle.motikhund.specs.Promises.{PacketChecks, PacketBuilds, PacketAnswers, FramerIdle, FramerHears, went_on, FrontAfter, GoesOn, HubOn, HubHears, HubHearsBlock, SenderIdle, Brings, Begins, SenderStarts, SenderHears, SenderWaits, SenderHeeds, FreshReader, ReaderOn, ReaderPowersUp, ReaderStarts, ReaderTimesOut, ReaderHears, ReaderValue, ReaderLocked, ReaderSaves, ReaderLoads, ReaderSwitches}

-- ---- what is lent

decided_by : (n : ℕ) (s : List ℕ) (needs : List Need) (d : Bool) → ltb (length s) n ≡ d → Lacking needs ⊎ Enough needs → Lacking (at_least n s ∷ needs) ⊎ Enough (at_least n s ∷ needs)
decided_by n s needs true e k = inl (here (ltb-true (length s) n e))
decided_by n s needs false e (inl k) = inl (there k)
decided_by n s needs false e (inr k) = inr (more (ltb-false (length s) n e) k)

pub decided : (needs : List Need) → Lacking needs ⊎ Enough needs
decided [] = inr none
decided (at_least n s ∷ needs) = decided_by n s needs (ltb (length s) n) refl (decided needs)

asks_unique : {needs : List Need} {A B A' B' P : Type 0} → Asks needs A B → Asks needs A' B' → (A → A' → P) → (B → B' → P) → P
asks_unique {needs} p q refused taken = ⊎_elim (λ k. refused (p.refuses k) (q.refuses k)) (λ e. taken (p.takes e) (q.takes e)) (decided needs)

named_unique : {named : Bool} {A B A' B' P : Type 0} → IfNamed named A B → IfNamed named A' B' → (A → A' → P) → (B → B' → P) → P
named_unique {named} {P = P} p q passed taken = by named refl
  where
    by : (d : Bool) → named ≡ d → P
    by true e = taken (p.takes e) (q.takes e)
    by false e = passed (p.passes e) (q.passes e)

-- The same value, the same bytes.
same_kept : {C : Type 0} {read : List ℕ → C} {bytes : C → List ℕ} {v v' : C} {control control₁ control₂ : List ℕ} → v ≡ v' → Kept read bytes v control control₁ →
    Kept read bytes v' control control₂ → control₁ ≡ control₂
same_kept {bytes = bytes} {control = control} e p q = p.control_is ∙ (ap (λ v. over (bytes v) control) e ∙ sym q.control_is)

-- The same start, the same bytes.
same_start : {C S : Type 0} {read : List ℕ → C} {bytes : C → List ℕ} {s s' : S} {control control₁ control₂ : List ℕ} (refused : S → Bool) (left : S → C) → s ≡ s' →
    KeptUnless (refused s) read bytes (left s) control control₁ →
    KeptUnless (refused s') read bytes (left s') control control₂ →
    control₁ ≡ control₂
same_start {bytes = bytes} {control = control} refused left e p q =
    p.control_is ∙ (ap (λ x. pick (refused x) control (over (bytes (left x)) control)) e ∙ sym q.control_is)

-- Two equal to one are equal.
same : {A : Type 0} {x y z : A} → x ≡ z → y ≡ z → x ≡ y
same p q = p ∙ sym q

-- And so are two calls that change nothing.
stays_3 : {A B C : Type 0} {r r' r₀ : A} {b b' b₀ : B} {v v' v₀ : C} → (r ≡ r₀) × (b ≡ b₀) × (v ≡ v₀) → (r' ≡ r₀) × (b' ≡ b₀) × (v' ≡ v₀) → (r ≡ r') × (b ≡ b') × (v ≡ v')
stays_3 a b = (same a.0 b.0, same a.1 b.1, same a.2 b.2)

stays_4 : {A B C D : Type 0} {r r' r₀ : A} {b b' b₀ : B} {c c' c₀ : C} {v v' v₀ : D} →
    (r ≡ r₀) × (b ≡ b₀) × (c ≡ c₀) × (v ≡ v₀) →
    (r' ≡ r₀) × (b' ≡ b₀) × (c' ≡ c₀) × (v' ≡ v₀) →
    (r ≡ r') × (b ≡ b') × (c ≡ c') × (v ≡ v')
stays_4 a b = (same a.0 b.0, same a.1 b.1, same a.2 b.2, same a.3 b.3)

stays_7 : {A B C : Type 0} {r r' r₀ : A} {b b' b₀ c c' c₀ d d' d₀ e e' e₀ f f' f₀ : B} {v v' v₀ : C} →
    (r ≡ r₀) × (b ≡ b₀) × (c ≡ c₀) × (d ≡ d₀) × (e ≡ e₀) × (f ≡ f₀) × (v ≡ v₀) →
    (r' ≡ r₀) × (b' ≡ b₀) × (c' ≡ c₀) × (d' ≡ d₀) × (e' ≡ e₀) × (f' ≡ f₀) × (v' ≡ v₀) →
    (r ≡ r') × (b ≡ b') × (c ≡ c') × (d ≡ d') × (e ≡ e') × (f ≡ f') × (v ≡ v')
stays_7 a b = (same a.0 b.0, same a.1 b.1, same a.2 b.2, same a.3 b.3, same a.4 b.4, same a.5 b.5, same a.6 b.6)

-- The number, or the values, of an outcome.
numbered : {A B : Type 0} {o o' : A} {x y : B} (f : A → B) → o ≡ o' → x ≡ f o → y ≡ f o' → x ≡ y
numbered f e p q = p ∙ (ap f e ∙ sym q)

-- ---- calls that make a control value

made_unique : {C : Type 0} {size : ℕ} {read : List ℕ → C} {bytes : C → List ℕ} {P : C → Type 0} {control control₁ control₂ : List ℕ} {r r' : ℕ} →
    ((v v' : C) → P v → P v' → v ≡ v') →
    Made size read bytes P control r control₁ →
    Made size read bytes P control r' control₂ →
    (r ≡ r') × (control₁ ≡ control₂)
made_unique one p q =
    asks_unique p.asks q.asks
    (λ a b. (same a.0 b.0, same a.1 b.1))
    (λ a b. (same a.told b.told, same_kept (one a.made b.made a.promise b.promise) a.kept b.kept))

pub framer_idle_unique : {control control₁ control₂ : List ℕ} {r r' : ℕ} → FramerIdle control r control₁ → FramerIdle control r' control₂ → (r ≡ r') × (control₁ ≡ control₂)
framer_idle_unique p q = made_unique (λ v v' a b. framing.idle_unique a b) p q

pub hub_on_unique : {control control₁ control₂ : List ℕ} {r r' : ℕ} → HubOn control r control₁ → HubOn control r' control₂ → (r ≡ r') × (control₁ ≡ control₂)
hub_on_unique p q = made_unique (λ v v' a b. joining.switched_on_unique a b) p q

pub sender_idle_unique : {control control₁ control₂ : List ℕ} {failed : Bool} {r r' : ℕ} → SenderIdle control failed r control₁ → SenderIdle control failed r' control₂ →
    (r ≡ r') × (control₁ ≡ control₂)
sender_idle_unique p q = made_unique (λ v v' a b. sending.idle_unique a b) p q

fresh_unique : {r r' : Reader} → FreshReader r → FreshReader r' → r ≡ r'
fresh_unique {r} p q =
    reading.switched_on_unique (rw (settings.defaults_unique p.defaults q.defaults) at p.switched) q.switched

pub reader_on_unique : {control control₁ control₂ : List ℕ} {r r' : ℕ} → ReaderOn control r control₁ → ReaderOn control r' control₂ → (r ≡ r') × (control₁ ≡ control₂)
reader_on_unique p q = made_unique (λ v v' a b. fresh_unique a b) p q

pub reader_power_up_unique : {control control₁ control₂ : List ℕ} {r r' : ℕ} → ReaderPowersUp control r control₁ → ReaderPowersUp control r' control₂ →
    (r ≡ r') × (control₁ ≡ control₂)
reader_power_up_unique p q = made_unique (λ v v' a b. reading.power_up_unique a b) p q

-- ---- the packet

pub check_unique : {s head₁ head₂ : List ℕ} {r r' : ℕ} → PacketChecks s r head₁ → PacketChecks s r' head₂ → (r ≡ r') × (head₁ ≡ head₂)
check_unique p q =
    let u = packet.check_unique p.checks q.checks in
    (numbered (λ (x : Result Head Refusal). result_number x 100) u p.told q.told, numbered checked_values u p.values q.values)

pub build_unique : {room carried room₁ room₂ : List ℕ} {opcode source status r r' size₁ size₂ : ℕ} → PacketBuilds room opcode source status carried r room₁ size₁ →
    PacketBuilds room opcode source status carried r' room₂ size₂ → (r ≡ r') × (room₁ ≡ room₂) × (size₁ ≡ size₂)
build_unique p q =
    let u = packet.build_unique p.builds q.builds in
    (numbered (λ (x : Result ℕ Refusal). result_number x 101) u.0 p.told q.told, u.1, numbered size_of u.0 p.value q.value)

pub answer_unique : {room room₁ room₂ : List ℕ} {source reply r r' size₁ size₂ : ℕ} → PacketAnswers room source reply r room₁ size₁ →
    PacketAnswers room source reply r' room₂ size₂ → (r ≡ r') × (room₁ ≡ room₂) × (size₁ ≡ size₂)
answer_unique p q =
    asks_unique p.asks q.asks (λ a b. stays_3 a b)
    (λ n m.
    named_unique n m (λ a b. stays_3 a b)
    (λ a b.
    let u = packet.answer_unique a.answers b.answers in
    (numbered (λ (x : Result ℕ Refusal). result_number x 101) u.0 a.told b.told, u.1, numbered size_of u.0 a.value b.value)))

-- ---- the framer

pub framer_hear_unique : {control line control₁ line₁ head₁ control₂ line₂ head₂ : List ℕ} {n r r' : ℕ} → FramerHears control line n r control₁ line₁ head₁ →
    FramerHears control line n r' control₂ line₂ head₂ → (r ≡ r') × (control₁ ≡ control₂) × (line₁ ≡ line₂) × (head₁ ≡ head₂)
framer_hear_unique p q =
    asks_unique p.asks q.asks (λ a b. stays_4 a b)
    (λ n m.
    named_unique n m (λ a b. stays_4 a b)
    (λ a b.
    let u = framing.hear_unique a.frames b.frames in (
      numbered (λ (x : Framed). found_number x.found) u.0 a.told b.told,
      same_kept (ap (λ (x : Framed). x.framer) u.0) a.kept b.kept,
      u.1,
      numbered (λ (x : Framed). found_values x.found) u.0 a.values b.values,
    )))

-- ---- the short way

same_front : (g : Going) (front front₁ front₂ : List ℕ) → FrontAfter g front front₁ → FrontAfter g front front₂ → front₁ ≡ front₂
same_front (On n) front front₁ front₂ p q = same_kept refl p q
same_front Woken front front₁ front₂ p q = same_kept refl p q
same_front Left front front₁ front₂ p q = same p q

pub go_on_unique : {front line front₁ line₁ front₂ line₂ : List ℕ} {n : ℕ} {r r' : Bool} → GoesOn front line n r front₁ line₁ → GoesOn front line n r' front₂ line₂ →
    (r ≡ r') × (front₁ ≡ front₂) × (line₁ ≡ line₂)
go_on_unique {front} {front₁ = front₁} {front₂ = front₂} p q =
    let u = framing.go_on_unique p.goes q.goes in
    (numbered went_on u.0 p.told q.told, same_front p.going front front₁ front₂ p.front_is (rw (sym u.0) at q.front_is), u.1)

-- ---- the hub

pub hub_hear_unique : {control line gather answer message control₁ line₁ gather₁ answer₁ message₁ values₁ control₂ line₂ gather₂ answer₂ message₂ values₂ : List ℕ} {n r r' : ℕ} →
    HubHears control line gather answer message n r control₁ line₁ gather₁ answer₁ message₁ values₁ →
    HubHears control line gather answer message n r' control₂ line₂ gather₂ answer₂ message₂ values₂ →
    (r ≡ r') × (control₁ ≡ control₂) × (line₁ ≡ line₂) × (gather₁ ≡ gather₂) × (answer₁ ≡ answer₂) × (message₁ ≡ message₂) × (values₁ ≡ values₂)
hub_hear_unique p q =
    asks_unique p.asks q.asks (λ a b. stays_7 a b)
    (λ n m.
    named_unique n m (λ a b. stays_7 a b)
    (λ a b.
    let u = joining.hear_unique a.hears b.hears in (
      numbered (λ (x : Taken). hub_number x.told) u.0 a.told b.told,
      same_kept (ap (λ (x : Taken). x.hub) u.0) a.kept b.kept,
      u.1,
      u.2,
      u.3,
      u.4,
      numbered (λ (x : Taken). hub_values x.told x.answer) u.0 a.values_are b.values_are,
    )))

pub hub_hear_block_unique : {control line gather answer message bytes control₁ line₁ gather₁ answer₁ message₁ values₁ control₂ line₂ gather₂ answer₂ message₂ values₂ : List ℕ} {r r' : ℕ} →
    HubHearsBlock control line gather answer message bytes r control₁ line₁ gather₁ answer₁ message₁ values₁ →
    HubHearsBlock control line gather answer message bytes r' control₂ line₂ gather₂ answer₂ message₂ values₂ →
    (r ≡ r') × (control₁ ≡ control₂) × (line₁ ≡ line₂) × (gather₁ ≡ gather₂) × (answer₁ ≡ answer₂) × (message₁ ≡ message₂) × (values₁ ≡ values₂)
hub_hear_block_unique p q =
    asks_unique p.asks q.asks (λ a b. stays_7 a b)
    (λ a b.
    let u = joining.hear_block_unique a.hears b.hears in (
      numbered (λ (x : Block). hub_number x.told) u.0 a.told b.told,
      same_start (λ (x : Block). eqb x.taken 0) (λ (x : Block). x.hub) u.0 a.kept b.kept,
      u.1,
      u.2,
      u.3,
      u.4,
      numbered (λ (x : Block). block_values x.told x.answer x.taken) u.0 a.values_are b.values_are,
    ))

-- ---- the sender

brings_unique : {o o' : Outcome} {r r' value₁ value₂ : ℕ} → o ≡ o' → Brings o r value₁ → Brings o' r' value₂ → (r ≡ r') × (value₁ ≡ value₂)
brings_unique e a b = (numbered outcome_number e a.told b.told, numbered outcome_value e a.value_is b.value_is)

begins_unique : {o o' : Outcome} {r r' : ℕ} {values₁ values₂ : List ℕ} → o ≡ o' → Begins o r values₁ → Begins o' r' values₂ → (r ≡ r') × (values₁ ≡ values₂)
begins_unique e a b = (numbered outcome_number e a.told b.told, numbered start_values e a.values_are b.values_are)

pub sender_start_unique : {control buffer room message control₁ buffer₁ room₁ values₁ control₂ buffer₂ room₂ values₂ : List ℕ} {code r r' : ℕ} →
    SenderStarts control buffer room code message r control₁ buffer₁ room₁ values₁ →
    SenderStarts control buffer room code message r' control₂ buffer₂ room₂ values₂ →
    (r ≡ r') × (control₁ ≡ control₂) × (buffer₁ ≡ buffer₂) × (room₁ ≡ room₂) × (values₁ ≡ values₂)
sender_start_unique p q =
    asks_unique p.asks q.asks
    (λ a b. (same a.0 b.0, same a.1 b.1, same a.2 b.2, same a.3 b.3, same a.4 b.4))
    (λ a b.
    let u = sending.start_unique a.starts b.starts in
    let t = begins_unique (ap (λ (x : Sending). x.outcome) u.0) a.begins b.begins in
    (t.0, same_start (λ (x : Sending). is_refused x.outcome) (λ (x : Sending). x.sender) u.0 a.kept b.kept, u.1, u.2, t.1))

pub sender_hear_unique : {control buffer room control₁ room₁ control₂ room₂ : List ℕ} {n r r' value₁ value₂ : ℕ} → SenderHears control buffer room n r control₁ room₁ value₁ →
    SenderHears control buffer room n r' control₂ room₂ value₂ → (r ≡ r') × (control₁ ≡ control₂) × (room₁ ≡ room₂) × (value₁ ≡ value₂)
sender_hear_unique p q =
    asks_unique p.asks q.asks
    (λ a b. stays_4 a b)
    (λ a b.
    let u = sending.hear_unique a.hears b.hears in
    let t = brings_unique (ap (λ (x : Sending). x.outcome) u.0) a.brings b.brings in
    (t.0, same_kept (ap (λ (x : Sending). x.sender) u.0) a.kept b.kept, u.1, t.1))

pub sender_waits_unique : {control : List ℕ} {r r' : ℕ} → SenderWaits control r → SenderWaits control r' → r ≡ r'
sender_waits_unique p q =
    asks_unique p.asks q.asks (λ a b. same a b)
    (λ a b. numbered waits_number (sending.waits_unique a.waits b.waits) a.told b.told)

pub sender_heed_unique : {opcode source status r r' : ℕ} {carried : List ℕ} → SenderHeeds opcode source status carried r → SenderHeeds opcode source status carried r' → r ≡ r'
sender_heed_unique p q = numbered heard_number (sending.heed_unique p.heeds q.heeds) p.told q.told

-- ---- the reader

pub reader_start_unique : {control message copy bytes control₁ message₁ copy₁ values₁ control₂ message₂ copy₂ values₂ : List ℕ} {code r r' : ℕ} →
    ReaderStarts control message copy code bytes r control₁ message₁ copy₁ values₁ →
    ReaderStarts control message copy code bytes r' control₂ message₂ copy₂ values₂ →
    (r ≡ r') × (control₁ ≡ control₂) × (message₁ ≡ message₂) × (copy₁ ≡ copy₂) × (values₁ ≡ values₂)
reader_start_unique p q =
    asks_unique p.asks q.asks
    (λ a b. (same a.0 b.0, same a.1 b.1, same a.2 b.2, same a.3 b.3, same a.4 b.4))
    (λ a b.
    let u = reading.start_unique a.starts b.starts in
    let t = begins_unique (ap (λ (x : Started). x.outcome) u.0) a.begins b.begins in
    (t.0, same_start (λ (x : Started). is_refused x.outcome) (λ (x : Started). x.reader) u.0 a.kept b.kept, u.1, u.2, t.1))

pub reader_time_out_unique : {control message copy control₁ copy₁ control₂ copy₂ : List ℕ} {r r' value₁ value₂ : ℕ} → ReaderTimesOut control message copy r control₁ copy₁ value₁ →
    ReaderTimesOut control message copy r' control₂ copy₂ value₂ → (r ≡ r') × (control₁ ≡ control₂) × (copy₁ ≡ copy₂) × (value₁ ≡ value₂)
reader_time_out_unique p q =
    asks_unique p.asks q.asks
    (λ a b. stays_4 a b)
    (λ a b.
    let u = reading.time_out_unique a.times b.times in
    let t = brings_unique (ap (λ (x : Started). x.outcome) u.0) a.brings b.brings in
    (t.0, same_kept (ap (λ (x : Started). x.reader) u.0) a.kept b.kept, u.1, t.1))

pub reader_hear_unique : {control line answers message answer copy control₁ line₁ answers₁ answer₁ copy₁ values₁ control₂ line₂ answers₂ answer₂ copy₂ values₂ : List ℕ} {n r r' : ℕ} →
    ReaderHears control line answers message answer copy n r control₁ line₁ answers₁ answer₁ copy₁ values₁ →
    ReaderHears control line answers message answer copy n r' control₂ line₂ answers₂ answer₂ copy₂ values₂ →
    (r ≡ r') × (control₁ ≡ control₂) × (line₁ ≡ line₂) × (answers₁ ≡ answers₂) × (answer₁ ≡ answer₂) × (copy₁ ≡ copy₂) × (values₁ ≡ values₂)
reader_hear_unique {control} p q =
    asks_unique p.asks q.asks (λ a b. stays_7 a b)
    (λ n m.
    named_unique n m (λ a b. stays_7 a b)
    (λ a b.
    let u = reading.hear_unique a.hears b.hears in (
      numbered (λ (x : Commanded). reader_number x.told x.outcome) u.0 a.told b.told,
      same_kept (ap (λ (x : Commanded). x.reader) u.0) a.kept b.kept,
      u.1,
      u.2,
      u.3,
      u.4,
      numbered (λ (x : Commanded). reader_values x.told x.answer x.outcome (permanent_changed (reader_in control) x.reader)) u.0 a.values_are b.values_are,
    )))

pub reader_value_unique : {control : List ℕ} {number r r' value₁ value₂ : ℕ} → ReaderValue control number r value₁ → ReaderValue control number r' value₂ →
    (r ≡ r') × (value₁ ≡ value₂)
reader_value_unique p q =
    asks_unique p.asks q.asks
    (λ a b. (same a.0 b.0, same a.1 b.1))
    (λ a b. (same a.told b.told, settings.value_unique a.shows b.shows))

pub reader_switches_unique : {control values₁ values₂ : List ℕ} {r r' : ℕ} → ReaderSwitches control r values₁ → ReaderSwitches control r' values₂ → (r ≡ r') × (values₁ ≡ values₂)
reader_switches_unique p q =
    asks_unique p.asks q.asks
    (λ a b. (same a.0 b.0, same a.1 b.1))
    (λ a b. (same a.0 b.0, same a.1 b.1))

pub reader_locked_unique : {control : List ℕ} {number r r' value₁ value₂ : ℕ} → ReaderLocked control number r value₁ → ReaderLocked control number r' value₂ →
    (r ≡ r') × (value₁ ≡ value₂)
reader_locked_unique p q =
    asks_unique p.asks q.asks
    (λ a b. (same a.0 b.0, same a.1 b.1))
    (λ a b. (same a.told b.told, numbered flag_byte (settings.locked_unique a.locked b.locked) a.value_is b.value_is))

pub reader_save_unique : {control room room₁ room₂ : List ℕ} {r r' size₁ size₂ : ℕ} → ReaderSaves control room r room₁ size₁ → ReaderSaves control room r' room₂ size₂ →
    (r ≡ r') × (room₁ ≡ room₂) × (size₁ ≡ size₂)
reader_save_unique p q =
    asks_unique p.asks q.asks
    (λ a b. (same a.0 b.0, same a.1 b.1, same a.2 b.2))
    (λ a b.
    let u = saved.save_unique a.saves b.saves in
    (numbered (λ (x : Result ℕ Refusal). result_number x 101) u.0 a.told b.told, u.1, numbered size_of u.0 a.value b.value))

pub reader_load_unique : {control form control₁ control₂ : List ℕ} {r r' : ℕ} → ReaderLoads control form r control₁ → ReaderLoads control form r' control₂ → (r ≡ r') × (control₁ ≡ control₂)
reader_load_unique {control} p q =
    asks_unique p.asks q.asks
    (λ a b. (same a.0 b.0, same a.1 b.1))
    (λ a b.
    let u = reading.load_unique a.loads b.loads in (
      numbered (λ (x : Result Reader Refusal). result_number x 0) u a.told b.told,
      same_start (is_err {A = Reader}) (left_of (reader_in control)) u a.kept b.kept,
    ))

-- ---- a table that is kept as a struct

pub table_set_unique : {k k₁ k₂ : MkTable} {pairs : List ℕ} {forever : Bool} {r r' : ℕ} → SetsTable k pairs forever r k₁ → SetsTable k pairs forever r' k₂ → (r ≡ r') × (k₁ ≡ k₂)
table_set_unique p q = (same p.told q.told, same p.is q.is)

pub table_defaults_unique : {k k₁ k₂ : MkTable} → DefaultsTable k k₁ → DefaultsTable k k₂ → k₁ ≡ k₂
table_defaults_unique p q = same p.is q.is

pub table_power_up_unique : {k k₁ k₂ : MkTable} → PowersUpTable k k₁ → PowersUpTable k k₂ → k₁ ≡ k₂
table_power_up_unique p q = same p.is q.is

pub reader_table_unique : {control : List ℕ} {k k₁ k₂ : MkTable} {r r' : ℕ} → TakesOut control k r k₁ → TakesOut control k r' k₂ → (r ≡ r') × (k₁ ≡ k₂)
reader_table_unique p q = asks_unique p.asks q.asks (λ a b. (same a.0 b.0, same a.1 b.1)) (λ a b. (same a.0 b.0, same a.1 b.1))

pub reader_put_table_unique : {control control₁ control₂ : List ℕ} {k : MkTable} {r r' : ℕ} → PutsBack control k r control₁ → PutsBack control k r' control₂ → (r ≡ r') × (control₁ ≡ control₂)
reader_put_table_unique p q =
    asks_unique p.asks q.asks (λ a b. (same a.0 b.0, same a.1 b.1))
    (λ a b. (same a.told b.told, same a.kept.control_is b.kept.control_is))
