mod SocketLogs
mod RunLogs
mod Carried
