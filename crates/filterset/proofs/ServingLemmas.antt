-- Sessions of which a part was read before, and faults that are shown in them.
use Rattle.std.proofs.Common.{◌≡◌, Bool, Option, None, Some, inl, refl, subst, sym}
use Rattle.std.specs.{Prelude.IsTrue, Io.KnownBytes.Consumes, Io.KnownBytes.prepend_known, declared.io.Error.Error}
use Rattle.filterset_display.specs.Columns.{Text}
use Rattle.filterset_display.specs.{Frames.Bytes, Machine.Says, Sessions.Served, declared.ending.Ending.Ending}
use Rattle.filterset_loading.proofs.FaultLemmas.{OrMemory-weaker}
use Rattle.filterset_loading.specs.Files.{OrMemory}
use Rattle.filterset_loading.specs.declared.fault.CommandFault.{CommandFault, TheVariants.Run}
use Rattle.filterset_loading.specs.declared.workspace.WorkspacePaths.{WorkspacePaths}
use Rattle.filterset.specs.Serving.{IsRunFault, IsServiceFault, IsStreamFault}
use Rattle.filterset_json.specs.declared.fault.RunFault.{RunFault}
use Rattle.filterset_json.specs.declared.fault.RunFault.TheVariants.{Memory, Read, Write}

-- what is consumed of an opening and the rest is consumed of the whole
Consumes-whole : (old mid new : Option Bytes) (opening read : Bytes) → Consumes old mid opening
    → Consumes (prepend_known opening mid) new read → Consumes old new read
Consumes-whole None mid new opening read h k = tt
Consumes-whole (Some xs) None new opening read h k = absurd h
Consumes-whole (Some xs) (Some ys) new opening read h k =
    let P : Bytes → Type 0 = λ bytes. Consumes (Some bytes) new read in
    subst P (sym h) k

-- a session that begins with what was read is one of the whole stream
pub Served-whole : (S : Says) (old mid new taken grown : Option Bytes) (opening : Bytes) (ending : Ending) → Consumes old mid opening
    → Served S (prepend_known opening mid) new taken grown ending → Served S old new taken grown ending
Served-whole S old mid new taken grown opening ending h (state, rest, (read, messages, written, consumed, splits, session, appended), ends) =
    (state, rest, (read, messages, written, Consumes-whole old mid new opening read h consumed, splits, session, appended), ends)

-- a fault that is no fault of a run, nor out of memory, is as it has to be
pub named_fault : (P : CommandFault → Type 0) (fault : CommandFault) → OrMemory P fault → ¬ IsRunFault fault → P fault
named_fault P (Run fault) h other = absurd (other tt)
named_fault P fault h other = h

-- a fault of a stream is what its reader or its writer knows
pub stream_fault : (unread unwritten : Bool) (fault : RunFault) → (fault ≡ Read → IsTrue unread) → (fault ≡ Write → IsTrue unwritten)
    → OrMemory (IsStreamFault unread unwritten) (Run fault)
stream_fault unread unwritten (Memory refused) read write = tt
stream_fault unread unwritten Read read write = read refl
stream_fault unread unwritten Write read write = write refl

-- and a fault of the session
pub service_fault : (content : Text → Option Text) (fails : Text → Error → Type 0) (paths : Option WorkspacePaths) (unread unwritten : Bool)
    (fault : CommandFault) → OrMemory (IsStreamFault unread unwritten) fault
    → OrMemory (IsServiceFault content fails paths unread unwritten) fault
service_fault content fails paths unread unwritten =
    OrMemory-weaker (IsStreamFault unread unwritten) (IsServiceFault content fails paths unread unwritten) (λ fault failed. inl failed)
