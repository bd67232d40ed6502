pub mod OwnFault
