-- Classes and types, passed on from the crate below.
unfoldable pub use Rattle.cc_types.specs.Types.{parents, reaches, subtype, extends, instance_of}
pub use Rattle.cc_types.specs.Types.{Ancestor, itself, above}
