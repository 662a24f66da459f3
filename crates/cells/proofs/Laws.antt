-- What is written behind what: a channel's own cells, its voice's, and channel after channel. Laws over plain variables.
-- Assumes nothing.
use Prim.Native.Nat.{ℕ, ◌+◌, ◌≤◌, ◌<◌}
use mathlib.Core.Path.{◌≡◌, refl, ap, ◌∙◌}
use mathlib.Core.List.{List, ◌++◌}
use native.Mathlib.Omega.{arith}
use lib.ListN.{length, take}
use lib.Seq.{sets, length-sets}
use Rattle.laws.specs.Positions.{sets-append}
use Rattle.common.specs.Limits.{width}
use Rattle.effects.specs.declared.Channel.{Channel}
use Rattle.sequencer.specs.declared.Song.{Song}
use Rattle.voice.specs.declared.Voice.{Voice}
use Rattle.player.specs.declared.State.{State}
use Rattle.cells.specs.Cells.{song_cell_count, plain_cell_count, wave_cell_count, own_cell_count, channel_cell_count, cell_count, channel_place, song_cells, plain_cells, wave_cells, own_cells, voice_cells, channel_cells, cells_at, joined, state_cells}
use Rattle.cells.specs.Puts.{Written, take-sets, written_none, written_more, written_all}

-- ---- a channel's plain cells, then its waves'
pub put_three : (c : Channel) (at : ℕ) (cells plain one both : List ℕ) → plain ≡ sets cells at (plain_cells c) → one ≡ sets plain (at + plain_cell_count) (wave_cells c.vibrato) → both ≡ sets one (at + plain_cell_count + wave_cell_count) (wave_cells c.tremolo) → both ≡ sets cells at (own_cells c)
put_three c at cells plain one both e q r =
    rw (sets-append cells at (plain_cells c) (wave_cells c.vibrato ++ wave_cells c.tremolo), ← e, sets-append plain (at + plain_cell_count) (wave_cells c.vibrato) (wave_cells c.tremolo), ← q) r

-- ---- a channel's own cells, then its voice's
pub put_both : (c : Channel) (v : Voice) (at : ℕ) (cells own both : List ℕ) → own ≡ sets cells at (own_cells c) → both ≡ sets own (at + own_cell_count) (voice_cells v) → both ≡ sets cells at (channel_cells c v)
put_both c v at cells own both e q = rw (sets-append cells at (own_cells c) (voice_cells v), ← e) q

-- ---- channel after channel
-- the first i channels' cells are written, behind the song's
abbrev pub ChannelsWritten : List Channel → List Voice → List ℕ → List ℕ → ℕ → Type 0
ChannelsWritten cs vs = Written song_cell_count channel_cell_count width (cells_at cs vs)

pub channels_none : (cs : List Channel) (vs : List Voice) (zeros cells₀ : List ℕ) (song : Song) (remainder : ℕ) → length zeros ≡ cell_count → cells₀ ≡ sets zeros 0 (song_cells song remainder) → ChannelsWritten cs vs cells₀ cells₀ 0
channels_none cs vs zeros cells₀ song remainder h e = written_none _ _ _ _ cells₀ (ap length e ∙ length-sets zeros 0 (song_cells song remainder) ∙ h)

pub channels_more : (cs : List Channel) (vs : List Voice) (cells₀ old new : List ℕ) (i : ℕ) → ChannelsWritten cs vs cells₀ old i → i < width → new ≡ sets old (channel_place i) (cells_at cs vs i) → ChannelsWritten cs vs cells₀ new (i + 1)
channels_more cs vs cells₀ old new i = written_more _ _ _ (cells_at cs vs) cells₀ old new i refl

pub channels_all : (s : State) (zeros cells₀ cells : List ℕ) (i : ℕ) → length zeros ≡ cell_count → cells₀ ≡ sets zeros 0 (song_cells s.song s.remainder) → ChannelsWritten s.song.channels s.voices cells₀ cells i → width ≤ i → cells ≡ state_cells s
unfolding state_cells
channels_all s zeros cells₀ cells i z e w h =
    written_all _ _ _ _ cells₀ cells i w h
    ∙ ap (λ (xs : List ℕ). xs ++ joined (cells_at s.song.channels s.voices) width) (ap (take song_cell_count) e ∙ take-sets (song_cells s.song s.remainder) zeros 0 (omega arith))

pub ruleset writes = (channels_none, channels_more, channels_all)
