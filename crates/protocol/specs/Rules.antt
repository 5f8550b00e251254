-- The two rule tables of a line: the port's own, and the snoop table of the other holders. No word, tag or address enters them.
use Rattle.std.specs.Prelude.{◌≡◌, Bool, true, false, cond, ◌&&◌}
use Rattle.protocol.specs.declared.state.Mode.{Mode}
use Rattle.protocol.specs.declared.state.Mode.TheVariants.{Through, Back}
use Rattle.protocol.specs.declared.state.State.{State}
use Rattle.protocol.specs.declared.state.State.TheVariants.{I, S, E, O, M}
use Rattle.words.specs.declared.access.Outcome.{Outcome}
use Rattle.words.specs.declared.access.Outcome.TheVariants.{Reads, Writes, Rewrites}
use Rattle.protocol.specs.declared.rules.Bus.{Bus}
use Rattle.protocol.specs.declared.rules.Bus.TheVariants.{Quiet, Share, Update, Invalidate, ShareOwned}
use Rattle.protocol.specs.declared.rules.Rule.{Rule}
use Rattle.protocol.specs.State.{valid, owner, is_e, same_mode, mode_of, is_back, is_through}

-- A holder becomes S in the mode m.
abbrev pub sharing : Mode → State → State
sharing m I = I
sharing m (S n) = S m
sharing m (E n) = S m
sharing m O = S m
sharing m M = S m

-- A holder becomes write-back S, but an owner stays the owner, as O.
abbrev pub sharing_owned : State → State
sharing_owned I = I
sharing_owned (S n) = S Back
sharing_owned (E n) = S Back
sharing_owned O = O
sharing_owned M = O

-- The snoop table: what a holder's state becomes at a bus command.
unfoldable pub snooped : Bus → State → State
snooped Quiet s = s
snooped (Share m) s = sharing m s
snooped (Update m) s = sharing m s
snooped Invalidate s = I
snooped ShareOwned s = sharing_owned s

-- Nothing goes over the bus.
abbrev pub is_quiet : Bus → Bool
is_quiet Quiet = true
is_quiet (Share m) = false
is_quiet (Update m) = false
is_quiet Invalidate = false
is_quiet ShareOwned = false

-- The command hands the line's new word to the holders.
unfoldable pub updates : Bus → Bool
updates Quiet = false
updates (Share m) = false
updates (Update m) = true
updates Invalidate = false
updates ShareOwned = false

abbrev pub ruled : State → Bus → Bool → Rule
ruled s b x = record { own = s; bus = b; stores = x }

-- The only holder of a word that memory may lack: M; or, where memory gets it too, write-through E.
abbrev pub alone : Mode → State
alone Back = M
alone Through = E Through

-- The port whose new word the other holders have too: O, or write-through S where memory has it.
abbrev pub among : Mode → State
among Back = O
among Through = S Through

-- Below, m is the mode of the access, `shared` says that another port holds the line, and `dirty` that some port owns it, the port itself
-- included. Some combinations can't arise, as a port in O or M and a line that is not dirty: the rule has an answer there too, and the published
-- tables leave it out (crates/rows).

-- A read hit, or a swap hit that fails, of a line in another mode than m. (M is write back, so m is write through there.)
abbrev pub turned : Mode → Bool → State → Rule
turned m dirty I = ruled I Quiet false
turned m dirty (E n) = ruled (E m) Quiet false
turned m dirty M = ruled (E Through) Quiet true
turned m dirty (S n) = ruled (S m) (Share m) (dirty && is_through m)
turned m dirty O = ruled (S m) (Share m) (dirty && is_through m)

-- A read hit, or a swap hit that fails: where the mode is m already, nothing changes.
abbrev pub read_hit : Mode → Bool → State → Rule
read_hit m dirty s = cond (same_mode (mode_of s) m) (ruled s Quiet false) (turned m dirty s)

-- A write hit, or a swap hit that succeeds.
abbrev pub write_hit : Mode → Bool → State → Rule
write_hit m shared I = ruled I Quiet false
write_hit m shared (E n) = ruled (alone m) Quiet (is_through m)
write_hit m shared M = ruled (alone m) Quiet (is_through m)
write_hit m shared (S n) = ruled (cond shared (among m) (alone m)) (Update m) (is_through m)
write_hit m shared O = ruled (cond shared (among m) (alone m)) (Update m) (is_through m)

-- A write hit, or a swap hit that succeeds, that leaves the word as it was (a silent store): E stays E, in the mode of the access; any other
-- state goes as where the word changes.
abbrev pub rewrite_hit : Mode → Bool → State → Rule
rewrite_hit m shared I = write_hit m shared I
rewrite_hit m shared (E n) = ruled (E m) Quiet (is_through m)
rewrite_hit m shared M = write_hit m shared M
rewrite_hit m shared (S n) = write_hit m shared (S n)
rewrite_hit m shared O = write_hit m shared O

abbrev pub hit : Outcome → Mode → Bool → Bool → State → Rule
hit Reads m shared dirty s = read_hit m dirty s
hit Writes m shared dirty s = write_hit m shared s
hit Rewrites m shared dirty s = rewrite_hit m shared s

-- A write miss, or a swap miss that succeeds, also where the word stays as it was.
abbrev pub write_miss : Mode → Rule
write_miss m = ruled (alone m) Invalidate (is_through m)

-- A miss: by a read, or a swap that fails; and by a write, or a swap that succeeds. The word comes from an owner where the line is dirty, else from
-- memory.
abbrev pub miss : Outcome → Mode → Bool → Bool → Rule
miss Reads m shared dirty = ruled (cond shared (S m) (E m)) (cond (is_back m) ShareOwned (Share m)) (dirty && is_through m)
miss Writes m shared dirty = write_miss m
miss Rewrites m shared dirty = write_miss m

-- The port's own table: the rule for a port that sees the line in the state s, I where its entry is of another line.
unfoldable pub rule : Outcome → Mode → Bool → Bool → State → Rule
rule k m shared dirty s = cond (valid s) (hit k m shared dirty s) (miss k m shared dirty)

-- A rewrite in write back that hits E, of either mode, leaves write-back E, tells nobody and stores nothing; every other rewrite, a miss
-- among them, does what a write does. The proof is `rewrites_say` in proofs/Kept.antt.
abbrev pub RewritesSay : Type 0
RewritesSay =
    (s : State) (m : Mode) (shared dirty : Bool)
    → rule Rewrites m shared dirty s ≡ cond (is_e s && is_back m) (ruled (E Back) Quiet false) (rule Writes m shared dirty s)

-- A flush by a holder: an owner's word is stored, and the entry becomes I.
unfoldable pub flush_rule : State → Rule
flush_rule s = ruled I Quiet (owner s)
