-- What is written is read back: `decode_encode`, for any number of channels and every known version that can be for so many.
-- Assumes nothing.
use Prim.Native.Nat.{ℕ, zero, suc, ◌+◌, ◌-◌, ◌*◌, ◌^◌, ◌≤◌, ◌<◌}
use Rattle.std.specs.Prelude.{◌≡◌, Bool, true, false, not, cond, ◌||◌, take, leb, ltb, eqb}
use Rattle.std.proofs.Math.Path.{refl, subst}
use Rattle.std.proofs.Common.{sym, ap, ◌∙◌, true≢false, add-zero, add_assoc, div-add-mod', length-take, length-drop, get_or-take, ext_get_or}
use mathlib.Core.List.{List, [], ◌∷◌, ◌++◌, append_assoc}
use native.Mathlib.Omega.{arith}
use Rattle.std.proofs.Math.ListN.{length, drop, length-append}
use borrow.Author.Tests.{eq-eqb, le-leb, le-ltb, eqb-true, lt-ltb}
use Rattle.common.specs.LimitFacts.{between_by}
use Rattle.common.specs.ByteLaws.{four_back, bit_back, bit_most}
use Rattle.ticks.specs.Commands.{nothing, sounding_of}
use Rattle.laws.specs.Positions.{at_offset, at_position, position_room, drop_past}
use Rattle.common.specs.Limits.{least_tempo, greatest_tempo}
use Rattle.common.specs.Bytes.{byte_at, word_at, four_at, four_bytes, bit}
use Rattle.common.specs.Answers.{refusing}
use Rattle.ticks.specs.declared.Command.{Command}
use Rattle.ticks.specs.declared.Tick.{Tick}
use Rattle.ticks.specs.Legal.{LegalCommand, LegalTick, length-sounding, get_or-sounding, LegalTicks, more}
use Rattle.records.specs.LegalLaws.{beside_by, Unused, AllUnused}
use Rattle.records.specs.Registers.{first_at, Beside}
use Rattle.records.specs.Length.{count_long, stream_length}
use Rattle.records.specs.Marked.{lowest, half}
use Rattle.records.specs.Format.{version_place, channels_place, count_place, least_place, head_bytes, tempo_place, body_bytes, start_place, counted_version, old_channels, known_version, version_of, shift, stream_channels, count_byte, at_first, changed, mask, command_bytes, channel_bytes, channels_bytes, record_bytes, records, stream_header, encode_after, encode, read, held, spelled, read_body, read_channel, read_channels, read_record, ticks, with_tick, decode_records, decode_after, decode, read_by, period_at, start_at, good_body, unused_bits, read_bodies}

-- ---- a channel
command_back : (s : List ℕ) (at : ℕ) (c : Command) (rest : List ℕ) → drop at s ≡ command_bytes c ++ rest → at + body_bytes ≤ length s → spelled s at ≡ c
unfolding spelled period_at start_at command_bytes
command_back s at c rest e room =
    let p = at_offset s at _ e in
    let low : at + 2 + 1 ≡ at + 3 = omega arith in
    let word : word_at s (at + 2) ≡ c.period = rw (low, p 2, p 3) (div-add-mod' c.period 256) in
    let start : eqb (byte_at s (at + start_place)) 1 ≡ c.start = ap (λ (b : ℕ). eqb b 1) (p start_place) ∙ bit_back c.start in
    rw (lt-ltb (at + 2 + 1) (length s) (omega arith), lt-ltb (at + start_place) (length s) (omega arith))
    (λ i. record { sample = at_position s at _ e i; volume = p 1 i; period = word i; start = start i; offset = p 5 i })

-- what is not written is what the registers hold
same_all : (a b c d : Bool) → not a || (not b || (not c || d)) ≡ false → (a ≡ true) × (b ≡ true) × (c ≡ true) × (d ≡ false)
same_all true true true false e = (refl, refl, refl, refl)
same_all true true true true e = absurd (true≢false e)
same_all true true false d e = absurd (true≢false e)
same_all true false c d e = absurd (true≢false e)
same_all false b c d e = absurd (true≢false e)

held_same : (last : ℕ) (r c : Command) → LegalCommand last r.sample c → changed r c ≡ false → held r ≡ c
unfolding changed held
held_same last r c l u =
    let x = same_all (eqb c.sample r.sample) (eqb c.volume r.volume) (eqb c.period r.period) c.start u in
    λ i. record {
      sample = sym (eqb-true c.sample r.sample x.0) i;
      volume = sym (eqb-true c.volume r.volume x.1) i;
      period = sym (eqb-true c.period r.period x.2) i;
      start = sym x.3 i;
      offset = sym (l.plain x.3) i;
    }

-- a channel's bytes, by its bit
abbrev bytes_by : Bool → Command → List ℕ
bytes_by b c = cond b (command_bytes c) []

channel_back : (last : ℕ) (s : List ℕ) (at : ℕ) (r c : Command) (m : ℕ) (rest : List ℕ) (b : Bool) → changed r c ≡ b → LegalCommand last r.sample c
    → drop at s ≡ bytes_by b c ++ rest
    → read_channel last s at r (bit b + 2 * m) ≡ read c (at + length (bytes_by b c))
unfolding read_channel read_body good_body command_bytes
channel_back last s at r c m rest true u l e =
    let room : at + body_bytes ≤ length s = omega (arith, position_room s at (command_bytes c ++ rest) e (omega arith)) in
    let flag : leb (byte_at s (at + start_place)) 1 ≡ true = le-leb (byte_at s (at + start_place)) 1 (omega (arith, at_offset s at (command_bytes c ++ rest) e start_place, bit_most c.start)) in
    rw (lowest true m, flag, command_back s at c rest e room, beside_by last r.sample c l, le-ltb (length s) (at + body_bytes) room)
channel_back last s at r c m rest false u l e =
    rw (lowest false m, held_same last r c l u, add-zero)

-- ---- all channels, of any number
channels_back : (last : ℕ) (s rest : List ℕ) (rs cs : List Command) (at : ℕ) → length rs ≤ length cs → Beside last rs cs → drop at s ≡ channels_bytes rs cs ++ rest
    → read_channels last s at rs (mask rs cs) ≡ read (take (length rs) cs) (at + length (channels_bytes rs cs))
unfolding read_channels mask channels_bytes channel_bytes read_by
channels_back last s rest [] cs at h l e = rw add-zero
channels_back last s rest (r ∷ rs) [] at h l e = absurd (omega arith)
channels_back last s rest (r ∷ rs) (c ∷ cs) at h l e =
    let b = changed r c in
    let m = mask rs cs in
    let e' : drop at s ≡ bytes_by b c ++ (channels_bytes rs cs ++ rest) = e ∙ append_assoc (bytes_by b c) (channels_bytes rs cs) rest in
    let ih = channels_back last s rest rs cs (at + length (bytes_by b c)) (omega arith) (λ i k. l (suc i) (omega arith)) (drop_past s at (bytes_by b c) (channels_bytes rs cs ++ rest) e') in
    rw (channel_back last s at r c m (channels_bytes rs cs ++ rest) b refl (l 0 (omega arith)) e', half b m, ih, length-append, add_assoc)

-- no further bit is set
none_unused : (c : ℕ) → unused_bits c 0 ≡ 0
unfolding unused_bits
none_unused zero = refl
none_unused (suc c) = none_unused c

mask_unused : (c : ℕ) (rs cs : List Command) → length rs ≤ c → unused_bits c (mask rs cs) ≡ 0
unfolding unused_bits mask
mask_unused c [] cs h = none_unused c
mask_unused c (r ∷ rs) [] h = none_unused c
mask_unused zero (r ∷ rs) (d ∷ cs) h = absurd (omega arith)
mask_unused (suc c) (r ∷ rs) (d ∷ cs) h = rw (half (changed r d) (mask rs cs)) (mask_unused c rs cs (omega arith))

-- ---- a record
-- the commands of the channels in use, and the registers of the others
in_use : (c : ℕ) (rs cs : List Command) → length cs ≡ length rs → Unused c rs → Unused c cs → take (length (take c rs)) cs ++ drop c rs ≡ cs
in_use zero rs cs e u w = ext_get_or nothing rs cs (sym e) (λ i l. u i (omega arith) ∙ sym (w i (omega arith)))
in_use (suc c) [] [] e u w = refl
in_use (suc c) [] (d ∷ cs) e u w = absurd (omega arith)
in_use (suc c) (r ∷ rs) [] e u w = absurd (omega arith)
in_use (suc c) (r ∷ rs) (d ∷ cs) e u w = ap (λ (ds : List Command). d ∷ ds) (in_use c rs cs (omega arith) (λ i h. u (suc i) (omega arith)) (λ i h. w (suc i) (omega arith)))

record_back : (last c : ℕ) (s rest : List ℕ) (registers : List Command) (t : Tick) (at : ℕ) → LegalTick last (sounding_of registers) t → Unused c registers → Unused c t.commands → drop at s ≡ record_bytes c registers t ++ rest
    → read_record last c s at registers ≡ read t (at + length (record_bytes c registers t))
unfolding read_record read_bodies record_bytes read_by
record_back last c s rest registers t at l u w e =
    let rs : List Command = take c registers in
    let bs : List ℕ = channels_bytes rs t.commands in
    let long : length t.commands ≡ length registers = l.long ∙ length-sounding registers in
    let fits : ltb (length s) (at + head_bytes) ≡ false = le-ltb (length s) (at + head_bytes) (omega (arith, position_room s at (record_bytes c registers t ++ rest) e (omega arith))) in
    let used : unused_bits c (mask rs t.commands) ≡ 0 = mask_unused c rs t.commands (omega (arith, length-take c registers)) in
    let legal : Beside last rs t.commands =
    λ i h.
    let k : i < c = omega (arith, length-take c registers) in
    rw (get_or-take c registers i nothing k, ← get_or-sounding registers i) (l.commands i (omega (arith, length-take c registers, length-sounding registers))) in
    let cs = channels_back last s rest rs t.commands (at + head_bytes) (omega (arith, length-take c registers)) legal (drop_past s at (mask rs t.commands ∷ t.tempo ∷ []) (bs ++ rest) e) in
    let n : at + head_bytes + length bs ≡ at + suc (suc (length bs)) = omega arith in
    rw (at_position s at (record_bytes c registers t ++ rest) e, used, fits, at_offset s at (record_bytes c registers t ++ rest) e tempo_place, between_by least_tempo greatest_tempo t.tempo l.tempo, cs, n, in_use c registers t.commands long u w)

-- ---- the records, and the whole stream
records_back : (last c : ℕ) (s : List ℕ) (registers : List Command) (ts : List Tick) (at : ℕ) → LegalTicks last (sounding_of registers) ts → Unused c registers → AllUnused c ts → at ≤ length s → drop at s ≡ records c registers ts
    → decode_records last c s (length ts) at registers ≡ ticks ts
unfolding decode_records records with_tick read_by
records_back last c s registers [] at l u w h e = rw (eq-eqb at (length s) (omega (arith, length-drop at s, ap length e)))
records_back last c s registers (t ∷ ts) at (more l ls) u w h e =
    let r : List ℕ = record_bytes c registers t in
    let all = position_room s at (r ++ records c t.commands ts) e (unfold record_bytes in omega arith) in
    let ih = records_back last c s t.commands ts (at + length r) ls w.0 w.1 (omega (arith, all, length-append r (records c t.commands ts))) (drop_past s at r (records c t.commands ts) e) in
    rw (record_back last c s (records c t.commands ts) registers t at l u w.0 e, ih)

-- the channels that a stream of a version is for
count_back : (v c : ℕ) (s rest : List ℕ) → version_of s ≡ v → drop channels_place s ≡ count_byte v c ++ rest → stream_channels s ≡ cond (ltb v counted_version) old_channels c
unfolding stream_channels count_byte
count_back v c s rest e q = rw e (by (ltb v counted_version) q)
  where
    by : (b : Bool) → drop channels_place s ≡ cond b [] (c ∷ []) ++ rest → cond b old_channels (byte_at s channels_place) ≡ cond b old_channels c
    by true q = refl
    by false q = at_position s channels_place _ q

-- a version that is read, and that can be for so many channels
pub record Versioned (v c : ℕ) : Type 0 where
  pub known : known_version v ≡ true
  pub channels : cond (ltb v counted_version) old_channels c ≡ c

module _ (last c v : ℕ) (versioned : Versioned v c) where
  pub decode_encode_after : (registers : List Command) (ts : List Tick) → Unused c registers → LegalTicks last (sounding_of registers) ts → AllUnused c ts → length ts < 2 ^ 32 → length (encode_after v c registers ts) < 2 ^ 32
      → decode_after last c registers (encode_after v c registers ts) ≡ ticks ts
  unfolding decode_after refusing encode_after stream_header four_bytes
  decode_encode_after registers ts u l w h k =
      let s : List ℕ = encode_after v c registers ts in
      let rs : List ℕ = records c registers ts in
      let b : List ℕ = count_byte v c in
      let n : List ℕ = four_bytes (length ts) in
      let follow : ℕ = least_place - version_place + shift v + length rs in
      let long : length s ≡ least_place + shift v + length rs = stream_length v c registers ts in
      let first : four_at s 0 ≡ follow = four_back s 0 follow (v ∷ ((b ++ n) ++ rs)) (omega arith) refl in
      let whole : length s ≡ version_place + four_at s 0 = omega arith in
      let counted : drop channels_place s ≡ b ++ (n ++ rs) = append_assoc b n rs in
      let ticked : drop (count_place + shift v) s ≡ n ++ rs = subst (λ (k : ℕ). drop (count_place + k) s ≡ n ++ rs) (count_long v c) (drop_past s count_place b (n ++ rs) counted) in
      let at : count_place + shift v + length n ≡ least_place + shift v = omega arith in
      let recorded : drop (least_place + shift v) s ≡ rs = subst (λ (k : ℕ). drop k s ≡ rs) at (drop_past s (count_place + shift v) n rs ticked) in
      let count : four_at s (count_place + shift v) ≡ length ts = four_back s (count_place + shift v) (length ts) rs h ticked in
      let channels : stream_channels s ≡ c = count_back v c s (n ++ rs) refl counted ∙ versioned.channels in
      rw (le-ltb (length s) least_place (omega arith), eq-eqb (length s) (version_place + four_at s 0) whole, versioned.known, le-ltb (length s) (least_place + shift v) (omega arith), eq-eqb (stream_channels s) c channels, count, records_back last c s registers ts (least_place + shift v) l u w (omega arith) recorded)

  -- the ticks of a stream that was written for them
  pub decode_encode : (ts : List Tick) → LegalTicks last (sounding_of at_first) ts → AllUnused c ts → length ts < 2 ^ 32 → length (encode v c ts) < 2 ^ 32 → decode last c (encode v c ts) ≡ ticks ts
  decode_encode ts = decode_encode_after at_first ts (λ i h. first_at i)
