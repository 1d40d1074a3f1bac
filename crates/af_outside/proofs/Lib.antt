pub mod ScriptedClientLemmas
pub mod ScriptedLinkLemmas
pub mod ScriptedDeviceLemmas
pub mod TapeLemmas
