pub mod PeerTalk
