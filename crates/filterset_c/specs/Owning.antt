-- What a handle owns: nothing at null, or else what a `Box<Object>` owns.
use base.Fml.{Fml, feq, fex}
use base.Stored.{Coded}
use denote.RawPtr.{Ptr, null_ptr}
use Rattle.std.specs.{contracts.impls.GlobalAllocator.TheImpl.ghosts, declared.alloc.Global.Global, Coded.coded_option}
use Rattle.std.specs.Box.Ownership.{box_owns}
use Rattle.std.specs.declared.option.Option.{Option, TheVariants.None, TheVariants.Some}
use Rattle.filterset_c.specs.contracts.object.Object.{the_row}

abbrev pub handle_owns : Ptr → Option the_row.Denot → Fml
handle_owns p None = feq Ptr p null_ptr
handle_owns p (Some x) = fex Global (λ a. box_owns (ghosts.dealloc_token a) the_row p x)

abbrev pub held_coded : Coded (Option the_row.Denot)
held_coded = coded_option the_row.coded
