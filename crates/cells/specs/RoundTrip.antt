-- Cells and states say the same: every state whose numbers fit their fields is the state of its cells (`state_cells_lem`), and cells whose numbers fit
-- them are the cells of their state (`cells_state`). A finetune's cell says a legal one exactly if it is -8 to 7 (`finetune_legal`, `finetune_inside`).
-- Assumes nothing.
use Rattle.std.specs.Prelude.{ℕ, zero, suc, ◌+◌, ◌-◌, ◌*◌, ◌≤◌, ◌<◌, ◌≡◌, refl, Bool, true, false, length, get_or, take, drop, eqb, ltb}
use Rattle.std.proofs.Common.{sym, ap, subst, ◌∙◌, add-zero, arith, get_or-drop, get_or-take, length-take-le, lt-ltb, le-ltb, le-leb, ltb-true, ltb-false}
use Rattle.std.proofs.Math.Path.{ap₂}
use mathlib.Core.List.{List, ◌++◌}
use Rattle.std.proofs.Math.ListN.{take-append-drop, length-drop}
use Rattle.std.proofs.Math.Seq.{drop-drop, take-add, take_all}
use Rattle.laws.specs.Choice.{either}
use Rattle.laws.specs.Each.{each_by, get_or-each}
use Rattle.laws.specs.Positions.{at_offset, at_position, drop_past}
use Rattle.common.specs.Bytes.{bit}
use Rattle.common.specs.Limits.{width, last_byte, last_word}
use Rattle.tuning.specs.Table.{last_finetune}
use Rattle.motion.specs.declared.Wave.{Wave}
use Rattle.effects.specs.declared.Channel.{Channel}
use Rattle.effects.specs.Legal.{fresh_channel}
use Rattle.effects.specs.Small.{SmallChannel}
use Rattle.voice.specs.declared.Voice.{Voice}
use Rattle.voice.specs.Frames.{blank}
use Rattle.player.specs.declared.State.{State}
use Rattle.cells.specs.Cells.{song_cell_count, plain_cell_count, wave_cell_count, own_cell_count, voice_cell_count, channel_cell_count, cell_count, channel_place, song_cells, below_zero, finetune_cell, plain_cells, wave_cells, own_cells, voice_cells, cells_at, state_cells, byte_number, word_number, sample_unless, wave_of, finetune_of, channel_of, voice_of, remainder_place, song_of, state_of}
use Rattle.cells.specs.Joined.{part_at, joined_parts, joined_at}
use Rattle.laws.specs.Ranges.{each}
use Rattle.common.specs.ByteLaws.{bit_back, bit_most}

-- a number that fits is kept
byte_stays : (n : ℕ) → n ≤ last_byte → byte_number n ≡ n
unfolding byte_number
byte_stays n h = omega arith

word_stays : (n : ℕ) → n ≤ last_word → word_number n ≡ n
unfolding word_number
word_stays n h = omega arith

sample_stays : (n : ℕ) → n ≤ last_byte → sample_unless false n ≡ n
unfolding sample_unless
sample_stays n h = byte_stays n h

-- ---- a finetune and its cell
-- how many numbers 32 bits have
abbrev pub words : ℕ
words = 4294967296

-- -8 to 7 in two's complement
pub data Tuning : ℕ → Type 0 where
  above : {x : ℕ} → x < 8 → Tuning x
  below : {x : ℕ} → words - 8 ≤ x → x < words → Tuning x

finetune_back : (f : ℕ) → f ≤ last_finetune → finetune_of (finetune_cell f) ≡ f
unfolding finetune_of finetune_cell
finetune_back f h =
    either (λ (x : ℕ). finetune_of x ≡ f) (ltb f 8) _ _ (λ e. rw (lt-ltb f 8 (ltb-true f 8 e)))
    (λ e. let l = ltb-false f 8 e in rw (le-leb f last_finetune h, le-ltb (below_zero + f) 8 (omega arith), le-ltb (below_zero + f) (below_zero + 8) (omega arith)) (omega arith))

finetune_again : (x : ℕ) → Tuning x → finetune_cell (finetune_of x) ≡ x
unfolding finetune_of finetune_cell
finetune_again x (above l) = rw (lt-ltb x 8 l, lt-ltb x 8 l)
finetune_again x (below l h) =
    rw (le-ltb x 8 (omega arith), le-ltb x (below_zero + 8) (omega arith), le-ltb (x - below_zero) 8 (omega arith), le-leb (x - below_zero) last_finetune (omega arith)) (omega arith)

-- -8 to 7 are legal
pub finetune_legal : (x : ℕ) → Tuning x → finetune_of x ≤ last_finetune
unfolding finetune_of
finetune_legal x (above l) = rw (lt-ltb x 8 l) (omega arith)
finetune_legal x (below l h) = rw (le-ltb x 8 (omega arith), le-ltb x (below_zero + 8) (omega arith)) (omega arith)

-- and no others
pub finetune_inside : (x : ℕ) → x < words → finetune_of x ≤ last_finetune → Tuning x
unfolding finetune_of
finetune_inside x w h = by (ltb x 8) refl
  where
    past : (t : Bool) → ltb x 8 ≡ false → ltb x (below_zero + 8) ≡ t → Tuning x
    past true e q =
        let k : last_finetune + 1 ≤ last_finetune = rw (e, q) at h in
        absurd (omega arith)
    past false e q = below (ltb-false x (below_zero + 8) q) w

    by : (t : Bool) → ltb x 8 ≡ t → Tuning x
    by true e = above (ltb-true x 8 e)
    by false e = past (ltb x (below_zero + 8)) e refl

-- ---- numbers that fit
pub record WaveBytes (w : Wave) : Type 0 where
  pub x : w.x ≤ last_byte
  pub y : w.y ≤ last_byte
  pub place : w.place ≤ last_byte
  pub form : w.form ≤ last_byte

pub record KeptChannel (c : Channel) : Type 0 where
  pub numbers : SmallChannel c
  pub finetune : c.finetune ≤ last_finetune
  pub vibrato : WaveBytes c.vibrato
  pub tremolo : WaveBytes c.tremolo

pub record KeptVoice (v : Voice) : Type 0 where
  pub sample : v.sample ≤ last_byte
  pub period : v.period ≤ last_word
  pub volume : v.volume ≤ last_byte
  pub fraction : v.fraction ≤ last_word

-- a voice's cells, and a channel's, from its place on
pub record KeptVoiceCells (l : List ℕ) (at : ℕ) : Type 0 where
  pub sample : get_or l at 0 ≤ last_byte
  pub period : get_or l (at + 1) 0 ≤ last_word
  pub volume : get_or l (at + 2) 0 ≤ last_byte
  pub fraction : get_or l (at + 4) 0 ≤ last_word
  pub flag : get_or l (at + 5) 0 ≤ 1

pub record KeptCells (l : List ℕ) (at : ℕ) : Type 0 where
  pub latched : get_or l at 0 ≤ last_byte
  pub finetune : Tuning (get_or l (at + 1) 0)
  pub volume : get_or l (at + 2) 0 ≤ last_byte
  pub period : get_or l (at + 3) 0 ≤ last_word
  pub target : get_or l (at + 4) 0 ≤ last_word
  pub memory : get_or l (at + 5) 0 ≤ last_byte
  pub waves : (j : ℕ) → j < wave_cell_count + wave_cell_count → get_or l (at + plain_cell_count + j) 0 ≤ last_byte
  pub voice : KeptVoiceCells l (at + own_cell_count)

-- ---- a channel's cells, read
wave_back : (l : List ℕ) (at : ℕ) (w : Wave) (rest : List ℕ) → WaveBytes w → drop at l ≡ wave_cells w ++ rest → wave_of l at ≡ w
wave_back l at w rest b e =
    simp (
      at_position l at _ e,
      at_offset l at _ e,
      byte_stays w.x b.x,
      byte_stays w.y b.y,
      byte_stays w.place b.place,
      byte_stays w.form b.form,
    )

channel_back : (l : List ℕ) (at : ℕ) (c : Channel) (rest : List ℕ) → KeptChannel c → drop at l ≡ own_cells c ++ rest → channel_of l at ≡ c
channel_back l at c rest b e =
    let vibrato = drop_past l at (plain_cells c) _ e in
    let tremolo = drop_past l (at + plain_cell_count) (wave_cells c.vibrato) _ vibrato in
    rw (wave_back l (at + plain_cell_count) c.vibrato _ b.vibrato vibrato, wave_back l (at + plain_cell_count + wave_cell_count) c.tremolo _ b.tremolo tremolo)
    (simp (
      at_position l at _ e,
      at_offset l at _ e,
      le-ltb last_byte c.memory b.numbers.memory,
      sample_stays c.latched b.numbers.latched,
      finetune_back c.finetune b.finetune,
      byte_stays c.volume b.numbers.volume,
      word_stays c.period b.numbers.period,
      word_stays c.target b.numbers.target,
      byte_stays c.memory b.numbers.memory,
    ))

pub voice_back : (l : List ℕ) (at : ℕ) (v : Voice) (rest : List ℕ) → KeptVoice v → drop at l ≡ voice_cells v ++ rest → voice_of l at ≡ v
voice_back l at v rest b e =
    simp (
      at_position l at _ e,
      at_offset l at _ e,
      bit_back,
      le-ltb 1 (bit v.stopped) (bit_most v.stopped),
      le-ltb last_word v.fraction b.fraction,
      sample_stays v.sample b.sample,
      word_stays v.period b.period,
      byte_stays v.volume b.volume,
      word_stays v.fraction b.fraction,
    )

-- ---- a state's cells, read
module _ (s : State) where
  abbrev l : List ℕ
  l = state_cells s

  abbrev cells_on : ℕ → List ℕ
  cells_on = cells_at s.song.channels s.voices

  -- the channels' cells come behind the song's, in parts of one length
  part_there : (i : ℕ) → i < width → take channel_cell_count (drop (channel_place i) l) ≡ cells_on i
  unfolding state_cells
  part_there i h = rw (← drop-drop (channel_cell_count * i) song_cell_count l) (joined_at channel_cell_count cells_on (λ j. refl) width i h)

  -- so every channel's stand at its place
  channel_there : (i : ℕ) → i < width → drop (channel_place i) l ≡ cells_on i ++ drop channel_cell_count (drop (channel_place i) l)
  channel_there i h =
      sym (take-append-drop channel_cell_count (drop (channel_place i) l)) ∙ ap (λ (xs : List ℕ). xs ++ drop channel_cell_count (drop (channel_place i) l)) (part_there i h)

  channels_back : length s.song.channels ≡ width → ((i : ℕ) → i < width → KeptChannel (get_or s.song.channels i fresh_channel)) → each (λ i. channel_of l (channel_place i)) width ≡ s.song.channels
  channels_back h b =
      sym (each_by _ width fresh_channel s.song.channels h (λ i k. sym (channel_back l (channel_place i) _ _ (b i k) (channel_there i k))))

  voices_back : length s.voices ≡ width → ((i : ℕ) → i < width → KeptVoice (get_or s.voices i blank)) → each (λ i. voice_of l (channel_place i + own_cell_count)) width ≡ s.voices
  voices_back h b =
      sym
      (each_by _ width blank s.voices h
      (λ i k. sym (voice_back l (channel_place i + own_cell_count) _ _ (b i k) (drop_past l (channel_place i) (own_cells (get_or s.song.channels i fresh_channel)) _ (channel_there i k)))))

  -- the state of a state's cells is the state
  pub state_cells_lem : length s.song.channels ≡ width → ((i : ℕ) → i < width → KeptChannel (get_or s.song.channels i fresh_channel)) → length s.voices ≡ width → ((i : ℕ) → i < width → KeptVoice (get_or s.voices i blank)) → state_of (state_cells s) ≡ s
  unfolding state_of state_cells
  state_cells_lem h b k d = rw (channels_back h b, voices_back k d)

-- ---- cells, written again
-- n cells from a place on
pub part_is : (l : List ℕ) (at n : ℕ) → at + n ≤ length l → take n (drop at l) ≡ each (λ i. get_or l (at + i) 0) n
part_is l at n h =
    let room : n ≤ length (drop at l) = omega (arith, length-drop at l) in
    each_by _ n 0 (take n (drop at l)) (length-take-le n (drop at l) room) (λ i k. get_or-take n (drop at l) i 0 k ∙ get_or-drop at l i 0)

flag_cell : (x : ℕ) → x ≤ 1 → bit (eqb x 1) ≡ x
flag_cell zero h = refl
flag_cell (suc zero) h = refl
flag_cell (suc (suc n)) h = absurd (omega arith)

song_again : (l : List ℕ) (cs : List Channel) → song_cell_count ≤ length l → song_cells (song_of l cs) (get_or l remainder_place 0) ≡ take song_cell_count l
unfolding each
song_again l cs h = rw (part_is l 0 song_cell_count h)

-- four cells from a place on are bytes
abbrev BytesFrom : List ℕ → ℕ → Type 0
BytesFrom l at = (j : ℕ) → j < wave_cell_count → get_or l (at + j) 0 ≤ last_byte

wave_again : (l : List ℕ) (at : ℕ) → at + wave_cell_count ≤ length l → BytesFrom l at → wave_cells (wave_of l at) ≡ take wave_cell_count (drop at l)
unfolding each
wave_again l at h b =
    let first : get_or l at 0 ≤ last_byte = rw (add-zero at) at (b 0 (omega arith)) in
    rw (
      part_is l at wave_cell_count h,
      add-zero,
      byte_stays (get_or l at 0) first,
      byte_stays (get_or l (at + 1) 0) (b 1 (omega arith)),
      byte_stays (get_or l (at + 2) 0) (b 2 (omega arith)),
      byte_stays (get_or l (at + 3) 0) (b 3 (omega arith)),
    )

plain_again : (l : List ℕ) (at : ℕ) → at + plain_cell_count ≤ length l → KeptCells l at → plain_cells (channel_of l at) ≡ take plain_cell_count (drop at l)
unfolding each
plain_again l at h k =
    rw (
      part_is l at plain_cell_count h,
      add-zero,
      le-ltb last_byte (get_or l (at + 5) 0) k.memory,
      sample_stays (get_or l at 0) k.latched,
      finetune_again (get_or l (at + 1) 0) k.finetune,
      byte_stays (get_or l (at + 2) 0) k.volume,
      word_stays (get_or l (at + 3) 0) k.period,
      word_stays (get_or l (at + 4) 0) k.target,
      byte_stays (get_or l (at + 5) 0) k.memory,
    )

channel_again : (l : List ℕ) (at : ℕ) → at + own_cell_count ≤ length l → KeptCells l at → own_cells (channel_of l at) ≡ take own_cell_count (drop at l)
channel_again l at h k =
    rw (
      take-add plain_cell_count (wave_cell_count + wave_cell_count) (drop at l),
      drop-drop plain_cell_count at l,
      take-add wave_cell_count wave_cell_count (drop (at + plain_cell_count) l),
      drop-drop wave_cell_count (at + plain_cell_count) l,
    )
    (ap₂ ◌++◌ (plain_again l at (omega arith) k)
    (ap₂ ◌++◌ (wave_again l (at + plain_cell_count) (omega arith) vibrato) (wave_again l (at + plain_cell_count + wave_cell_count) (omega arith) tremolo)))
  where
    vibrato : BytesFrom l (at + plain_cell_count)
    vibrato j m = k.waves j (omega arith)

    tremolo : BytesFrom l (at + plain_cell_count + wave_cell_count)
    tremolo j m = subst (λ (n : ℕ). get_or l n 0 ≤ last_byte) (omega arith) (k.waves (wave_cell_count + j) (omega arith))

pub voice_again : (l : List ℕ) (at : ℕ) → at + voice_cell_count ≤ length l → KeptVoiceCells l at → voice_cells (voice_of l at) ≡ take voice_cell_count (drop at l)
unfolding each
voice_again l at h k =
    rw (
      part_is l at voice_cell_count h,
      add-zero,
      flag_cell (get_or l (at + 5) 0) k.flag,
      le-ltb 1 (get_or l (at + 5) 0) k.flag,
      le-ltb last_word (get_or l (at + 4) 0) k.fraction,
      sample_stays (get_or l at 0) k.sample,
      word_stays (get_or l (at + 1) 0) k.period,
      byte_stays (get_or l (at + 2) 0) k.volume,
      word_stays (get_or l (at + 4) 0) k.fraction,
    )

module _ (l : List ℕ) (long : length l ≡ cell_count) (kept : (i : ℕ) → i < width → KeptCells l (channel_place i)) where
  channel_cells_lem : (i : ℕ) → i < width → cells_at (state_of l).song.channels (state_of l).voices i ≡ part_at channel_cell_count (drop song_cell_count l) i
  unfolding state_of
  channel_cells_lem i h =
      rw (
        get_or-each (λ j. channel_of l (channel_place j)) width i fresh_channel h,
        get_or-each (λ j. voice_of l (channel_place j + own_cell_count)) width i blank h,
        drop-drop (channel_cell_count * i) song_cell_count l,
        take-add own_cell_count voice_cell_count (drop (channel_place i) l),
        drop-drop own_cell_count (channel_place i) l,
      )
      (ap₂ ◌++◌ (channel_again l (channel_place i) (omega arith) (kept i h)) (voice_again l (channel_place i + own_cell_count) (omega arith) (kept i h).voice))

  -- they are the cells of their state
  pub cells_state : state_cells (state_of l) ≡ l
  unfolding state_cells state_of
  cells_state =
      ap₂ ◌++◌ (song_again l (state_of l).song.channels (omega arith))
      (joined_parts channel_cell_count (drop song_cell_count l) (cells_at (state_of l).song.channels (state_of l).voices) width channel_cells_lem
      ∙ take_all (channel_cell_count * width) (drop song_cell_count l) (omega (arith, length-drop song_cell_count l)))
      ∙ take-append-drop song_cell_count l
