pub mod ChannelLemmas
pub mod CseLemmas
pub mod DepthLemmas
pub mod FollowLemmas
pub mod LimitLemmas
pub mod SoundnessLemmas
